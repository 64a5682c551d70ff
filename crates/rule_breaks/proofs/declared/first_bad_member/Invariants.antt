use Rattle.std.proofs.Common.{◌≡◌, ◌+◌, length, map}
use Rattle.form_reader.specs.Views.{sub_type_of}
use Rattle.rule_spec.specs.Lists.{declared_from}
use Rattle.rule_breaks.specs.TypeFlags.{IsWell}
use Rattle.rule_breaks.proofs.Searching.{Passes}
use Rattle.rule_breaks.proofs.declared.first_bad_member.Given as goal

-- those so far keep the rule
abbrev pub invariant-loop-first : goal.invariant-loop-first
invariant-loop-first l = record {
  long : l.start + l.number + length l.left ≡ l.end;
  passes : Passes (IsWell l.functions) l.number (declared_from (l.start + length l.types) (l.start + l.number) (map sub_type_of l.left))
      (declared_from (l.start + length l.types) l.start (map sub_type_of l.types));
}

abbrev pub decreases-loop-first : goal.decreases-loop-first
decreases-loop-first l = length l.left
