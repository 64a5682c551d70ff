use Rattle.std.proofs.Common.{◌≡◌, ◌↔◌, ◌+◌, length, map, All}
use Rattle.form_reader.specs.Views.{sub_type_of}
use Rattle.rule_spec.specs.Lists.{declared_from}
use Rattle.form_types.specs.Below.{HasSupertypeBelow}
use Rattle.form_types.proofs.below.supertypes_are_below.Given as goal

-- all hold exactly where the remaining ones do
abbrev pub invariant-loop-first : goal.invariant-loop-first
invariant-loop-first l = record {
  long : l.index + length l.left ≡ l.start + length l.types;
  tells : All HasSupertypeBelow (declared_from (l.start + length l.types) l.index (map sub_type_of l.left))
      ↔ All HasSupertypeBelow (declared_from (l.start + length l.types) l.start (map sub_type_of l.types));
}

abbrev pub decreases-loop-first : goal.decreases-loop-first
decreases-loop-first l = length l.left
