-- Those so far name function types.
use Rattle.std.proofs.Common.{ℕ, ◌<◌, slice_index_or}
use Rattle.rule_spec.specs.TypeRules.{NamesFunctionType}
use Rattle.form_rules.specs.Views.{lists_of}
use Rattle.form_rules.specs.Known.{AreKnown}
use Rattle.form_rules.proofs.type_rules.all_name_function_types.Given as goal

abbrev pub invariant-loop-index : goal.invariant-loop-index
invariant-loop-index l =
    AreKnown (lists_of l.lists) l.known
    × ((k d : ℕ) → k < l.index-index → NamesFunctionType (lists_of l.lists) (slice_index_or l.indices k d))
