use Rattle.std.proofs.Common.{◌↔◌, IsTrue, length, subst, rules}
use Rattle.form_reader.specs.Views.{global_of}
use Rattle.rule_spec.specs.References.{GlobalRefersIn}
use Rattle.form_rules.specs.Views.{lists_of}
use Rattle.form_rules.proofs.Taking.{taken}
use Rattle.rule_breaks.proofs.Searching.{passes_none, passes_more, passes_fails, passes_ended}
use Rattle.rule_breaks.proofs.globals.first_referring_global.Goals as goal

pub loop-globals-init : goal.loop-globals-init
loop-globals-init c = passes_none _ _ _ (search rules)

pub loop-globals-preserved : goal.loop-globals-preserved
loop-globals-preserved c =
    let at = taken _ _ _ _ _ c.if-branch.true c.in_ok-advance.ensures c.entry.ensures in
    passes_more (GlobalRefersIn (length (lists_of c.args.lists.now).types)) _ _ _ _ (global_of c.entry.result.now) c.loop-globals.invariant at _ c.in_ok-number.ensures
    (subst (λ n. GlobalRefersIn n (global_of c.entry.result.now)) c.count-types.ensures (c.global_refers.ensures.0 c.if-not-global_refers.false))

pub returns-then-not-global_refers : goal.returns-then-not-global_refers
returns-then-not-global_refers c =
    let at = taken _ _ _ _ _ c.if-branch.true c.in_ok-advance.ensures c.entry.ensures in
    passes_fails (GlobalRefersIn (length (lists_of c.args.lists.now).types)) _ _ _ _ (global_of c.entry.result.now) c.loop-globals.invariant at _ c.if-not-global_refers.true
    (subst (λ n. IsTrue c.global_refers.result ↔ GlobalRefersIn n (global_of c.entry.result.now)) c.count-types.ensures c.global_refers.ensures)

pub returns : goal.returns
returns c =
    passes_ended (GlobalRefersIn (length (lists_of c.args.lists.now).types)) _ _ _ _ _ _ c.loop-globals.invariant c.if-branch.false c.in_ok-advance.ensures
