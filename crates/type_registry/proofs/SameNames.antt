-- Canonical members as keys of maps.
use Rattle.std.proofs.Common.{arith, ◌≡◌, ◌↔◌, Bool, true, List}
use Rattle.std.specs.Cmp.{IsEquivalence}
use Rattle.std.proofs.lemmas.Bool.Decides.{same_from_decides}
use Rattle.wasm_types.specs.declared.sub.WasmSubType.{WasmSubType}
use Rattle.type_registry.specs.Keeping.{Shared}
use Rattle.type_registry.proofs.Keeping.{Eq}

-- whether two keys are equal
abbrev pub same : Shared → Shared → Bool
same x y = Eq x.value y.value

module _ (equal : (x y : List WasmSubType) → (Eq x y ≡ true) ↔ (x ≡ y)) where
  pub same-laws : IsEquivalence same
  same-laws = grind (arith, same_from_decides)
