use Rattle.std.proofs.Common.{◌∙◌, rules, sym, ap, subst, true≢false}
use Rattle.std.specs.Prelude.{is_some}
use Rattle.import_match.specs.declared.error.LinkError.TheVariants as error
use Rattle.import_match.specs.Linking.{wanted, IsHeld}
use Rattle.import_match.specs.Resolving.{resolved, IsAnswer}
use Rattle.import_match.proofs.Answered.{answer-given, answer-complete, answer-missing, answer-mismatch, answer-of_import}
use Rattle.import_match.proofs.linker.Linker.resolve.Goals as goal

-- the result over the definitions that the caller sees
answer : (c : goal.After-resolve_imports) → IsAnswer c.resolve_imports.result (resolved c.args.self.now (wanted c.args.registry.now c.args.key c.args.module.now))
answer c = subst (λ ds. IsAnswer c.resolve_imports.result (resolved ds (wanted c.args.registry.now c.args.key c.args.module.now))) c.self.view_is c.resolve_imports.ensures

held : (c : goal.After-resolve_imports) → IsHeld c.args.registry.now c.args.key
held c = search rules

pub returns-clause-answer : goal.returns-clause-answer
returns-clause-answer c = λ held. answer c

pub returns-clause-given : goal.returns-clause-given
returns-clause-given c = answer-given c.args.self.now (wanted c.args.registry.now c.args.key c.args.module.now) c.resolve_imports.result (answer c)

pub returns-clause-complete : goal.returns-clause-complete
returns-clause-complete c = λ held matched. answer-complete c.args.self.now (wanted c.args.registry.now c.args.key c.args.module.now) c.resolve_imports.result (answer c) matched

pub returns-clause-not_held : goal.returns-clause-not_held
returns-clause-not_held c = (
  λ is. absurd (answer-of_import c.args.self.now (wanted c.args.registry.now c.args.key c.args.module.now) c.resolve_imports.result (answer c) error.NotHeld (λ h. absurd cc) is),
  λ none. absurd (true≢false (sym (held c) ∙ ap is_some none)),
)

pub returns-clause-missing : goal.returns-clause-missing
returns-clause-missing c = λ i.
    let told = answer-missing c.args.self.now (wanted c.args.registry.now c.args.key c.args.module.now) c.resolve_imports.result (answer c) i in
    record { caused = λ is. (held c, told.caused is); comes = λ cause. told.comes cause.1 }

pub returns-clause-mismatch : goal.returns-clause-mismatch
returns-clause-mismatch c = λ i rule.
    let told = answer-mismatch c.args.self.now (wanted c.args.registry.now c.args.key c.args.module.now) c.resolve_imports.result (answer c) i rule in
    record { caused = λ is. (held c, told.caused is); comes = λ cause. told.comes cause.1 }

pub returns-clause-others : goal.returns-clause-others
returns-clause-others c = λ is. answer-of_import c.args.self.now (wanted c.args.registry.now c.args.key c.args.module.now) c.resolve_imports.result (answer c) error.Duplicate (λ h. absurd cc) is
