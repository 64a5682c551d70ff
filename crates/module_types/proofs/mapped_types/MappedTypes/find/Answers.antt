use Rattle.std.proofs.lemmas.Grind.{common_steps}
use Rattle.std.proofs.Common.{arith, ◌≡◌, ◌∙◌, ◌<◌, ◌-◌, ℕ, true, false, List, length, get_or, Some, sym, ap}
use Rattle.std.specs.Prelude.{slice_get, option_and_then, IsSome}
use Rattle.std.proofs.lemmas.List.{length-map}
use Rattle.std.proofs.lemmas.Option.{slice_get_read}
use Rattle.wasm_index.specs.Index.{number_of}
use Rattle.wasm_types.specs.declared.func.WasmFuncType.{WasmFuncType}
use Rattle.wasm_types.specs.declared.sub.WasmSubType.{WasmSubType}
use Rattle.wasm_types.specs.contracts.equal.WasmFuncTypePartialEq.TheImpl as func
use Rattle.wasm_types.specs.Trampolines.{trampoline_of}
use Rattle.wasm_types.specs.Views.{func_in}
use Rattle.module_types.specs.TypeParts.{part_at}
use Rattle.module_types.specs.declared.mapped_types.MappedType.{MappedType}
use Rattle.module_types.specs.declared.mapped_types.MappedTypes.{MappedTypes}
use Rattle.module_types.specs.MappedTypes.{MappedKey, digest_of, newest_of, mapped_key_of, mapped_keys, mapped_at, Leads, AreFoundByDigest}
use Rattle.module_types.proofs.Chaining.{at-map, in-range, found-there, steps-back, key-read, part-below}
use Rattle.module_types.proofs.mapped_types.MappedTypes.find.Goals as goal

-- one of a chain, which was read
module _ {types : List WasmSubType} {m : MappedTypes} (linked : AreFoundByDigest types m) (f : WasmFuncType) (left : ℕ)
    (leads : Leads (digest_of m.hasher) (mapped_keys types m.types.items) f left (length (mapped_keys types m.types.items))) (some : 0 < left)
    {e : MappedType} (at : e ≡ get_or m.types.items (left - 1) e) where
  abbrev rs : List MappedKey
  rs = mapped_keys types m.types.items

  pub read : slice_get m.types.items (left - 1) ≡ Some e
  read = slice_get_read m.types.items (length rs) (left - 1) e (length-map m.types.items (mapped_key_of types))
      (in-range (digest_of m.hasher) (newest_of m) rs linked.chained f left leads some) at

  pub stands-there : IsSome (part_at func_in types e.ty)
  stands-there = linked.standing (left - 1) e read

  pub is-function : (t : WasmSubType) → slice_get types (number_of e.ty) ≡ Some t → IsSome (func_in t.composite_type.inner)
  is-function t stands = coe 0 1 (i. IsSome (ap (option_and_then (λ (u : WasmSubType). func_in u.composite_type.inner)) stands i)) stands-there

  module _ {t : WasmSubType} {g : WasmFuncType} (stands : slice_get types (number_of e.ty) ≡ Some t) (is : func_in t.composite_type.inner ≡ Some g) where
    key : (mapped_key_of types e).key ≡ g
    key = key-read types e t g stands is

    pub found-is : func.ghosts.eq f g ≡ true → Some e.ty ≡ mapped_at types m f
    found-is same =
        found-there (digest_of m.hasher) (newest_of m) rs linked.chained f left (mapped_key_of types e) leads some (at-map (mapped_key_of types) m.types.items (left - 1) e read)
        (ap (func.ghosts.eq f) key ∙ same)

    pub back : func.ghosts.eq f g ≡ false → Leads (digest_of m.hasher) rs f e.before (length rs) × (e.before < left)
    back other =
        steps-back (digest_of m.hasher) (newest_of m) rs linked.chained f left (mapped_key_of types e) leads some (at-map (mapped_key_of types) m.types.items (left - 1) e read)
        (ap (func.ghosts.eq f) key ∙ other)

pub index-requires : goal.index-requires
index-requires c =
    part-below c.args.list.now.types c.index-recorded.result.now.ty
    (stands-there c.requires.linked (trampoline_of c.args.func.now) c.loop-left.left c.loop-left.invariant c.loop-left-test.true c.index-recorded.ensures)

pub unwrap_func-requires : goal.unwrap_func-requires
unwrap_func-requires c = grind (arith, common_steps, is-function)

pub returns-then-is_mapped : goal.returns-then-is_mapped
returns-then-is_mapped c =
    found-is c.requires.linked (trampoline_of c.args.func.now) c.loop-left.left c.loop-left.invariant c.loop-left-test.true c.index-recorded.ensures c.index.ensures
    c.unwrap_func.ensures (sym c.is_mapped.ensures ∙ c.if-is_mapped.true)

pub loop-left-smaller : goal.loop-left-smaller
loop-left-smaller c =
    (back c.requires.linked (trampoline_of c.args.func.now) c.loop-left.left c.loop-left.invariant c.loop-left-test.true c.index-recorded.ensures c.index.ensures
    c.unwrap_func.ensures (sym c.is_mapped.ensures ∙ c.if-is_mapped.false)).1

pub loop-left-preserved : goal.loop-left-preserved
loop-left-preserved c =
    (back c.requires.linked (trampoline_of c.args.func.now) c.loop-left.left c.loop-left.invariant c.loop-left-test.true c.index-recorded.ensures c.index.ensures
    c.unwrap_func.ensures (sym c.is_mapped.ensures ∙ c.if-is_mapped.false)).0
