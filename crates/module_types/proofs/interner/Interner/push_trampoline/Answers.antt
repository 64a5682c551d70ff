use Rattle.std.proofs.lemmas.Grind.{common_steps}
use Rattle.std.proofs.Common.{arith, ◌≡◌, ◌∙◌, ℕ, List, [], ◌∷◌, ◌++◌, length, Some, OnOk, sym, ap}
use Rattle.std.proofs.lemmas.List.{length-map}
use Rattle.std.proofs.lemmas.Result.{on_ok_weaker}
use Rattle.wasm_spec.specs.TypeData.{Func}
use Rattle.type_spec.specs.Interned.{plain, alone, knows}
use Rattle.wasm_index.specs.Index.{number_of, index_of}
use Rattle.wasm_types.specs.declared.func.WasmFuncType.{WasmFuncType}
use Rattle.wasm_types.specs.Trampolines.{trampoline_of}
use Rattle.module_types.specs.declared.interner.Interner.{Interner}
use Rattle.module_types.specs.declared.mapped_types.MappedTypes.{MappedTypes}
use Rattle.wasm_types.specs.declared.sub.WasmSubType.{WasmSubType}
use Rattle.wasm_types.specs.Views.{func_in}
use Rattle.module_types.specs.Views.{TypeIndex, interned_of, called_of}
use Rattle.module_types.specs.TypeList.{TypeList, called_by}
use Rattle.module_types.specs.TypeParts.{part_at}
use Rattle.module_types.specs.Held.{built_of}
use Rattle.module_types.specs.Interner.{known, built, with_next_trampoline, FindsMapped}
use Rattle.module_types.specs.MappedTypes.{mapped_at, digest_of, AreFoundByDigest, IsNoted}
use Rattle.module_types.proofs.Chaining.{part-at-end}
use Rattle.module_types.proofs.Steps.{next-is, noted-is}
use Rattle.module_types.proofs.interner.Interner.push_trampoline.Goals as goal

-- where the list is unchanged
pub push_alone-requires-clause-sound : goal.push_alone-requires-clause-sound
push_alone-requires-clause-sound c = record { orderly = grind (arith, common_steps); found = grind (arith, common_steps) }

-- what follows once the type is recorded
module _ (i now : Interner) (met : MappedTypes) (ty : ℕ) (k : TypeIndex) (mapped : WasmFuncType) (digest : ℕ) (own : trampoline_of mapped ≡ mapped)
    (l : TypeList) (set : l ≡ called_by i.list ty k) (count : k ≡ index_of (length i.list.types)) (is : digest ≡ digest_of i.mapped_types.hasher mapped)
    (t : WasmSubType) (plain_is : interned_of t ≡ plain (Func (called_of mapped))) (func_is : func_in t.composite_type.inner ≡ Some mapped)
    (pushed : built now ≡ alone (built_of l (mapped_at l.types i.mapped_types)) (interned_of t) (Some (number_of k))) (found : FindsMapped now)
    (types : now.list.types ≡ l.types ++ t ∷ []) (met_is : now.mapped_types ≡ i.mapped_types)
    (noted : (ts : List WasmSubType) (f : WasmFuncType) → AreFoundByDigest ts now.mapped_types → part_at func_in ts k ≡ Some f → digest ≡ digest_of now.mapped_types.hasher f → IsNoted ts now.mapped_types met f k) where
  end : number_of k ≡ length l.types
  end = ap number_of count ∙ sym (ap (λ (m : TypeList). length m.types) set)

  is-noted : IsNoted now.list.types now.mapped_types met mapped k
  is-noted = noted now.list.types mapped found (ap (λ ts. part_at func_in ts k) types ∙ part-at-end l.types t k mapped end func_is)
      (is ∙ ap (λ (m : MappedTypes). digest_of m.hasher mapped) (sym met_is))

  pub after-note : (built (record { list = now.list; mapped_types = met }) ≡ with_next_trampoline (built i) ty (called_of mapped)) × FindsMapped (record { list = now.list; mapped_types = met })
  after-note = (
    noted-is now.list (known now) mapped own (mapped_at now.list.types met) k is-noted.puts
        ∙ ap (λ b. knows b (called_of mapped) (number_of k))
        (pushed ∙ (λ j. alone (built_of (set j) (mapped_at (set j).types i.mapped_types)) (plain_is j) (Some (number_of k))))
        ∙ next-is i.list (known i) ty k (called_of mapped) (ap number_of count ∙ sym (length-map i.list.types interned_of)),
    is-noted.linked,
  )

pub returns : goal.returns
returns c =
    let pushed = c.in_ok-push_alone.ensures in
    let Then = λ (met : MappedTypes). (built (record { list = c.push_alone.new.self.list; mapped_types = met }) ≡ with_next_trampoline (built c.args.self.now) (number_of c.args.ty) (called_of c.args.mapped))
    × FindsMapped (record { list = c.push_alone.new.self.list; mapped_types = met }) in
    let after : OnOk c.note.result (Then c.note.new.self) = on_ok_weaker c.note.result
    (λ noted. after-note c.args.self.now c.push_alone.new.self c.note.new.self (number_of c.args.ty) c.next_ty-trampoline.result c.args.mapped c.args.digest c.requires.mapped
    _ c.set_trampoline.ensures c.next_ty-trampoline.ensures c.requires.digest c.plain_function.result c.plain_function.ensures.interned c.plain_function.ensures.function
    pushed.built pushed.sound.found pushed.types c.push_alone.ensures.mapped noted)
    c.note.ensures in
    record { built = on_ok_weaker c.note.result (λ both. both.0) after; found = on_ok_weaker c.note.result (λ both. both.1) after }
