use Rattle.std.proofs.Common.{rules}
use Rattle.form_reader.specs.Views.{table_of}
use Rattle.rule_breaks.specs.Kept.{TableKeeps}
use Rattle.form_rules.specs.Views.{lists_of}
use Rattle.rule_breaks.proofs.Searching.{passes_none, passes_all, passes_more, passes_fails}
use Rattle.rule_breaks.proofs.entries.first_table.Goals as goal

pub loop-table-init : goal.loop-table-init
loop-table-init c = passes_none _ _ _ (search rules)

pub loop-table-preserved : goal.loop-table-preserved
loop-table-preserved c =
    passes_more (TableKeeps c.args.rule (lists_of c.args.typing.now.lists.now)) _ _ _ _ (table_of c.in-Some.table.now) c.loop-table.invariant c.in-Some.ensures.steps _ c.in_ok-number.ensures
    (c.in_ok-table_keeps.ensures.0 c.if-not-branch.false)

pub returns-then-not-branch : goal.returns-then-not-branch
returns-then-not-branch c =
    passes_fails (TableKeeps c.args.rule (lists_of c.args.typing.now.lists.now)) _ _ _ _ (table_of c.in-Some.table.now) c.loop-table.invariant c.in-Some.ensures.steps _ c.if-not-branch.true c.in_ok-table_keeps.ensures

pub returns : goal.returns
returns c = passes_all (TableKeeps c.args.rule (lists_of c.args.typing.now.lists.now)) _ _ _ c.loop-table.invariant c.in-None.ensures.steps.0
