use Rattle.std.proofs.Common.{rules}
use Rattle.form_reader.specs.Views.{export_of}
use Rattle.rule_spec.specs.Indices.{IsInSpace}
use Rattle.form_rules.specs.Views.{lists_of}
use Rattle.rule_breaks.proofs.Searching.{passes_none, passes_all, passes_more, passes_fails}
use Rattle.rule_breaks.proofs.entries.first_export.Goals as goal

pub loop-export-init : goal.loop-export-init
loop-export-init c = passes_none _ _ _ (search rules)

pub loop-export-preserved : goal.loop-export-preserved
loop-export-preserved c =
    passes_more (IsInSpace (lists_of c.args.lists.now)) _ _ _ _ (export_of c.in-Some.export.now) c.loop-export.invariant c.in-Some.ensures.steps _ c.in_ok-number.ensures
    (c.is_in_space.ensures.0 c.if-not-is_in_space.false)

pub returns-then-not-is_in_space : goal.returns-then-not-is_in_space
returns-then-not-is_in_space c =
    passes_fails (IsInSpace (lists_of c.args.lists.now)) _ _ _ _ (export_of c.in-Some.export.now) c.loop-export.invariant c.in-Some.ensures.steps _ c.if-not-is_in_space.true c.is_in_space.ensures

pub returns : goal.returns
returns c = passes_all (IsInSpace (lists_of c.args.lists.now)) _ _ _ c.loop-export.invariant c.in-None.ensures.steps.0
