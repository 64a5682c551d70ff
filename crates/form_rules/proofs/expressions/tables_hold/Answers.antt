use Rattle.form_reader.specs.Views.{table_of}
use Rattle.rule_spec.specs.Expressions.{HasTypedInitialiser}
use Rattle.form_rules.specs.Views.{lists_of}
use Rattle.form_types.proofs.AllOf.{left_more, left_fails}
use Rattle.form_rules.proofs.expressions.tables_hold.Goals as goal

pub loop-table-preserved : goal.loop-table-preserved
loop-table-preserved c =
    left_more (HasTypedInitialiser (lists_of c.args.typing.now.lists.now)) _ _ _ (table_of c.in-Some.table.now) c.in-Some.ensures.steps c.loop-table.invariant
    (c.in_ok-table_holds.ensures.0 c.if-not-branch.false)

pub returns-then-not-branch : goal.returns-then-not-branch
returns-then-not-branch c =
    left_fails (HasTypedInitialiser (lists_of c.args.typing.now.lists.now)) _ _ _ (table_of c.in-Some.table.now) c.in-Some.ensures.steps c.loop-table.invariant _
    c.if-not-branch.true c.in_ok-table_holds.ensures
