use Rattle.std.proofs.Common.{arith, rules}
use Rattle.form_reader.specs.Views.{export_of}
use Rattle.rule_breaks.proofs.Searching.{passes_none, passes_more}
use Rattle.rule_breaks.proofs.Earlier.{IsOther, none_before, none_at_all, same_name, same_bytes, other_bytes}
use Rattle.rule_breaks.proofs.faults_entries.earlier_export.Goals as goal

pub loop-export-init : goal.loop-export-init
loop-export-init c = record { few = omega arith; passes = passes_none _ _ _ (search rules) }

pub loop-export-preserved : goal.loop-export-preserved
loop-export-preserved c = record {
  few = omega (arith, c.loop-export.invariant.few, c.if-number-entry.false, c.in_ok-number.ensures);
  passes = passes_more (IsOther c.args.name.now) _ _ _ _ (export_of c.in-Some.export.now) c.loop-export.invariant.passes c.in-Some.ensures.steps _ c.in_ok-number.ensures
      (other_bytes _ _ _ c.eq.ensures c.if-eq.false);
}

pub unreachable-requires : goal.unreachable-requires
unreachable-requires c = none_before c.args.name.now _ _ _ c.loop-export.invariant.passes c.args.entry c.if-number-entry.true c.requires

pub returns-then-eq : goal.returns-then-eq
returns-then-eq c = (
  omega (arith, c.loop-export.invariant.few, c.if-number-entry.false),
  same_name c.args.name.now _ _ _ c.loop-export.invariant.passes _ (export_of c.in-Some.export.now) c.in-Some.ensures.steps
      (same_bytes _ _ _ c.eq.ensures c.if-eq.true),
)

pub unreachable-requires-2 : goal.unreachable-requires-2
unreachable-requires-2 c = none_at_all c.args.name.now _ _ _ c.loop-export.invariant.passes c.args.entry c.in-None.ensures.steps.0 c.requires
