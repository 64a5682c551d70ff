-- Searches for an index that is not below a bound.
use Rattle.std.specs.Prelude.{◌≡◌, ◌⊎◌, ℕ, ◌<◌, ◌≤◌, List, length, All, Contains, Option, None, Some, slice_get, Bool, false}
use Rattle.wasm_spec.specs.declared.types.UnpackedIndex.{UnpackedIndex}
use Rattle.wasm_spec.specs.declared.types.UnpackedIndex.TheVariants.{Module}
use Rattle.wasm_spec.specs.TypeData.{Composite, Cont, composite_edges}
use Rattle.rule_spec.specs.Lists.{Declared}
use Rattle.rule_spec.specs.TypeRules.{IsBelow}
use Rattle.rule_breaks.specs.declared.fault.RuleFault.{RuleFault}
use Rattle.rule_breaks.specs.declared.fault.RuleFault.TheVariants as fault
use Rattle.rule_breaks.specs.Faults.{IsNoType}

-- one of the type indices is not below the bound, or all are
abbrev pub FindsPast : ℕ → List UnpackedIndex → Option UnpackedIndex → Type 0
FindsPast bound named None = All (IsBelow bound) named
FindsPast bound named (Some i) = Contains named i × ¬ IsBelow bound i

-- the same of plain indices
abbrev pub FindsMissing : ℕ → List ℕ → Option ℕ → Type 0
FindsMissing count indices None = All (λ i. i < count) indices
FindsMissing count indices (Some i) = Contains indices i × (count ≤ i)

-- a type may only name an index below the bound
abbrev pub IsNoEarlier : ℕ → UnpackedIndex → RuleFault → Type 0
IsNoEarlier bound (Module i) (fault.NoEarlierType index end) = (index ≡ i) × (end ≡ bound) × (end ≤ index)
IsNoEarlier bound (Module i) _ = ⊥
IsNoEarlier bound _ fault.ForeignIndex = Unit {0}
IsNoEarlier bound _ _ = ⊥

-- a type does not keep the first rule, where the flags say which types are function types
abbrev pub IsContinuationFault : List Bool → UnpackedIndex → RuleFault → Type 0
IsContinuationFault flags (Module i) (fault.NotAFunctionType index) = (index ≡ i) × (slice_get flags i ≡ Some false)
IsContinuationFault flags i f = IsNoType (length flags) i f

abbrev pub IsKindFault : List Bool → Composite UnpackedIndex UnpackedIndex → RuleFault → Type 0
IsKindFault flags (Cont i) f = IsContinuationFault flags i f
IsKindFault flags _ f = ⊥

abbrev pub IsMemberFault : List Bool → Declared → RuleFault → Type 0
IsMemberFault flags d f =
    ((i : UnpackedIndex) × Contains (composite_edges (λ j. j) d.type.composite.inner) i × IsNoEarlier d.group_end i f)
    ⊎ ((i : UnpackedIndex) × (d.type.supertype ≡ Some i) × IsNoEarlier d.index i f)
    ⊎ IsKindFault flags d.type.composite.inner f
