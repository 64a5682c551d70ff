use Rattle.std.proofs.Common.{◌<◌, ◌≤◌, [], ◌∷◌, None, All, refl, arith}
use Rattle.std.specs.Option.{IsSome}
use Rattle.std.proofs.lemmas.List.Elements.{All-head}
use Rattle.wasm_spec.specs.declared.types.UnpackedIndex.TheVariants.{Module}
use Rattle.wasm_spec.specs.Module.{Expression}
use Rattle.rule_spec.specs.Lists.{lists_of_module}
use Rattle.rule_spec.specs.TypeRules.{IsBelow, KindIsBelow, ValueIsBelow, IsDeclaredWell}
use Rattle.rule_spec.specs.Limits.{HasLimits}
use Rattle.rule_spec.specs.Indices.{IsElementInRange}
use Rattle.rule_spec.specs.References.{GlobalRefersIn}
use Rattle.rule_spec.specs.Rules.{IsInitialised}
use Rattle.rule_spec.specs.Worked.{type_past_group, memory_as_a, segment_without_table}
use Rattle.rule_spec.proofs.worked.worked_rules.Goals as goal

only : {X : Type 0} (P : X → Type 0) (x : X) → All P (x ∷ []) → P x
only P x all = All-head P x [] all

pub returns-clause-types : goal.returns-clause-types
unfolding KindIsBelow
returns-clause-types c = λ all.
    let well = only (IsDeclaredWell (lists_of_module type_past_group)) _ all in
    let below : 1 < 1 = only (IsBelow 1) (Module 1) well.indices in
    absurd (omega (arith, below))

pub returns-clause-limits : goal.returns-clause-limits
returns-clause-limits c = λ kept.
    let limits = only HasLimits _ kept.memories in
    let ordered : 2 ≤ 1 = limits.ordered in
    absurd (omega (arith, ordered))

pub returns-clause-tables : goal.returns-clause-tables
returns-clause-tables c = λ all. absurd (let is : IsSome {T = Expression} None = only IsInitialised _ all refl in cc)

pub returns-clause-exports : goal.returns-clause-exports
returns-clause-exports c = λ kept. kept.distinct 0 1 memory_as_a (omega arith) (omega arith) refl

pub returns-clause-segments : goal.returns-clause-segments
returns-clause-segments c = λ kept.
    let in_range = only (IsElementInRange (lists_of_module segment_without_table)) _ kept.elements in
    let below : 0 < 0 = in_range.table in
    absurd (omega (arith, below))

pub returns-clause-references : goal.returns-clause-references
unfolding ValueIsBelow
returns-clause-references c = λ kept.
    let refers = only (GlobalRefersIn 0) _ kept.globals in
    let below : 0 < 0 = only (IsBelow 0) (Module 0) refers.content in
    absurd (omega (arith, below))
