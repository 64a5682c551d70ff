use Rattle.std.proofs.Common.{◌↔◌, IsTrue, length, subst, rules}
use Rattle.wasm_spec.specs.Module.{Import}
use Rattle.form_reader.specs.Views.{import_of}
use Rattle.rule_spec.specs.References.{ImportRefersIn}
use Rattle.form_rules.specs.Views.{lists_of}
use Rattle.rule_breaks.proofs.Searching.{passes_none, passes_all, passes_more, passes_fails}
use Rattle.rule_breaks.proofs.entries.first_import.Goals as goal

pub loop-import-init : goal.loop-import-init
loop-import-init c = passes_none _ _ _ (search rules)

pub loop-import-preserved : goal.loop-import-preserved
loop-import-preserved c =
    passes_more (λ (i : Import). ImportRefersIn (length (lists_of c.args.lists.now).types) i.type) _ _ _ _ (import_of c.in-Some.import.now) c.loop-import.invariant c.in-Some.ensures.steps _ c.in_ok-number.ensures
    (subst (λ n. ImportRefersIn n c.in-Some.import.now.ty) c.count-types.ensures (c.import_refers.ensures.0 c.if-not-import_refers.false))

pub returns-then-not-import_refers : goal.returns-then-not-import_refers
returns-then-not-import_refers c =
    passes_fails (λ (i : Import). ImportRefersIn (length (lists_of c.args.lists.now).types) i.type) _ _ _ _ (import_of c.in-Some.import.now) c.loop-import.invariant c.in-Some.ensures.steps _ c.if-not-import_refers.true
    (subst (λ n. IsTrue c.import_refers.result ↔ ImportRefersIn n c.in-Some.import.now.ty) c.count-types.ensures c.import_refers.ensures)

pub returns : goal.returns
returns c = passes_all (λ (i : Import). ImportRefersIn (length (lists_of c.args.lists.now).types) i.type) _ _ _ c.loop-import.invariant c.in-None.ensures.steps.0
