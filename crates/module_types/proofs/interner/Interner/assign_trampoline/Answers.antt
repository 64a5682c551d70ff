use Rattle.std.proofs.lemmas.Grind.{common_steps}
use Rattle.std.proofs.Common.{◌≡◌, ◌∙◌, ℕ, List, Some, refl, sym, ap, subst, arith}
use Rattle.std.specs.Prelude.{slice_get, option_and_then}
use Rattle.type_spec.specs.Interned.{assign_trampoline, composite_at}
use Rattle.wasm_index.specs.Index.{number_of}
use Rattle.wasm_types.specs.declared.composite.WasmCompositeInnerType.TheVariants as inner
use Rattle.wasm_types.specs.declared.func.WasmFuncType.{WasmFuncType}
use Rattle.wasm_types.specs.declared.sub.WasmSubType.{WasmSubType}
use Rattle.wasm_types.specs.Trampolines.{trampoline_of}
use Rattle.wasm_types.specs.Views.{func_in}
use Rattle.module_types.specs.Views.{TypeIndex, called_of}
use Rattle.module_types.specs.TypeList.{TypeList, called_by}
use Rattle.module_types.specs.TypeParts.{part_at}
use Rattle.module_types.specs.Held.{built_of}
use Rattle.module_types.specs.Interner.{built, known, FindsMapped, IsTrampoline}
use Rattle.module_types.specs.declared.interner.Interner.{Interner}
use Rattle.module_types.specs.declared.interner.Trampoline.TheVariants.{Itself}
use Rattle.module_types.specs.declared.mapped_types.MappedTypes.{MappedTypes}
use Rattle.module_types.specs.MappedTypes.{mapped_at, digest_of, AreFoundByDigest, IsNoted}
use Rattle.module_types.proofs.Keys.{equal, called-mapped, trampoline-twice}
use Rattle.module_types.proofs.Steps.{composite-read, assign_trampoline-other, known-before, known-itself, known-next, new-long}
use Rattle.module_types.proofs.interner.Interner.assign_trampoline.Goals as goal

pub returns-in_default-clause-built : goal.returns-in_default-clause-built
returns-in_default-clause-built c = grind (arith, common_steps, assign_trampoline-other)

pub returns-in-Known-clause-built : goal.returns-in-Known-clause-built
returns-in-Known-clause-built c =
    let i = c.args.self.now in
    let kind = composite-read i.list.types (number_of c.args.ty) c.index.result.now c.index.ensures _ c.in-Func.is in
    ap (λ (l : TypeList). built_of l (mapped_at l.types i.mapped_types)) c.set_trampoline.ensures
    ∙ known-before i.list (known i) (number_of c.args.ty) c.in-Func.func kind c.in-Known.found
    (sym (subst (IsTrampoline (known i) i.mapped_types.hasher c.in-Func.func) c.in-Known.is c.in_ok-found.ensures))

pub returns-in-Known-clause-found : goal.returns-in-Known-clause-found
returns-in-Known-clause-found c = grind (arith, common_steps)

-- a type that is its own mapped type is recorded at its index
module _ (i : Interner) (found : FindsMapped i) (ty : TypeIndex) (x : WasmSubType) (read : slice_get i.list.types (number_of ty) ≡ Some x) (f : WasmFuncType)
    (is : x.composite_type.inner ≡ inner.Func f) (digest : ℕ) (own : IsTrampoline (known i) i.mapped_types.hasher f (Itself digest)) (l : TypeList) (set : l ≡ called_by i.list (number_of ty) ty)
    (met : MappedTypes) (noted : (ts : List WasmSubType) (g : WasmFuncType) → AreFoundByDigest ts i.mapped_types → part_at func_in ts ty ≡ Some g → digest ≡ digest_of i.mapped_types.hasher g → IsNoted ts i.mapped_types met g ty) where
  is-noted : IsNoted i.list.types i.mapped_types met (trampoline_of f) ty
  is-noted = noted i.list.types (trampoline_of f) found
      (ap (option_and_then (λ (t : WasmSubType). func_in t.composite_type.inner)) read ∙ ap func_in is ∙ ap Some (sym own.2)) own.1

  pub finds-itself : FindsMapped (record { list = l; mapped_types = met })
  finds-itself = coe 0 1 (j. AreFoundByDigest (sym (ap (λ (m : TypeList). m.types) set) j) met) is-noted.linked

  pub gains-itself : built (record { list = l; mapped_types = met }) ≡ assign_trampoline (built i) (number_of ty) (composite_at (built i).types (number_of ty))
  gains-itself =
      ap (λ (m : TypeList). built_of m (mapped_at m.types met)) set
      ∙ known-itself i.list (known i) (number_of ty) f (composite-read i.list.types (number_of ty) x read _ is) (sym own.0)
      (mapped_at i.list.types met) ty refl is-noted.puts ((equal (trampoline_of f) f).1 own.2)

pub returns-in_ok-note-in-Itself-clause-built : goal.returns-in_ok-note-in-Itself-clause-built
returns-in_ok-note-in-Itself-clause-built c =
    let i = c.args.self.now in
    gains-itself i c.requires.sound.found c.args.ty c.index.result.now c.index.ensures c.in-Func.func c.in-Func.is c.in-Itself.digest
    (subst (IsTrampoline (known i) i.mapped_types.hasher c.in-Func.func) c.in-Itself.is c.in_ok-found.ensures) _ c.set_trampoline-in-Itself.ensures _ c.in_ok-note-in-Itself.ensures

pub returns-in_ok-note-in-Itself-clause-found : goal.returns-in_ok-note-in-Itself-clause-found
returns-in_ok-note-in-Itself-clause-found c =
    let i = c.args.self.now in
    finds-itself i c.requires.sound.found c.args.ty c.index.result.now c.index.ensures c.in-Func.func c.in-Func.is c.in-Itself.digest
    (subst (IsTrampoline (known i) i.mapped_types.hasher c.in-Func.func) c.in-Itself.is c.in_ok-found.ensures) _ c.set_trampoline-in-Itself.ensures _ c.in_ok-note-in-Itself.ensures

-- another type comes next
pub push_trampoline-requires-clause-room : goal.push_trampoline-requires-clause-room
push_trampoline-requires-clause-room c =
    let i = c.args.self.now in
    let kind = composite-read i.list.types (number_of c.args.ty) c.index.result.now c.index.ensures _ c.in-Func.is in
    let other = subst (IsTrampoline (known i) i.mapped_types.hasher c.in-Func.func) c.in-New.is c.in_ok-found.ensures in
    omega (arith, new-long i.list (known i) (number_of c.args.ty) c.in-Func.func kind (sym other.0) other.3, c.requires.room)

pub push_trampoline-requires-clause-mapped : goal.push_trampoline-requires-clause-mapped
push_trampoline-requires-clause-mapped c = grind (arith, common_steps, trampoline-twice)

pub push_trampoline-requires-clause-digest : goal.push_trampoline-requires-clause-digest
push_trampoline-requires-clause-digest c = grind (arith, common_steps)

pub returns-in_ok-push_trampoline-in-New-clause-built : goal.returns-in_ok-push_trampoline-in-New-clause-built
returns-in_ok-push_trampoline-in-New-clause-built c =
    let i = c.args.self.now in
    let kind = composite-read i.list.types (number_of c.args.ty) c.index.result.now c.index.ensures _ c.in-Func.is in
    let other = subst (IsTrampoline (known i) i.mapped_types.hasher c.in-Func.func) c.in-New.is c.in_ok-found.ensures in
    c.in_ok-push_trampoline-in-New.ensures.built
    ∙ known-next i.list (known i) (number_of c.args.ty) c.in-Func.func kind (sym other.0) other.3 (called_of c.in-New.mapped) (ap called_of other.2 ∙ called-mapped c.in-Func.func)
