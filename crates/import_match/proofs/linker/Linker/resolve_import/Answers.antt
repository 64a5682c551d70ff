use Rattle.std.proofs.Common.{◌∙◌, rules, sym, ap, true≢false}
use Rattle.std.specs.Prelude.{is_some}
use Rattle.import_match.specs.declared.error.LinkError.TheVariants as error
use Rattle.import_match.specs.Linking.{wanted, IsHeld}
use Rattle.import_match.proofs.Answered.{answer-at-of_import}
use Rattle.import_match.proofs.linker.Linker.resolve_import.Goals as goal

pub returns-clause-not_held : goal.returns-clause-not_held
returns-clause-not_held c =
    let held : IsHeld c.args.registry.now c.args.key = search rules in (
      λ is. absurd (answer-at-of_import c.self.inside.definitions (wanted c.args.registry.now c.args.key c.args.module.now) c.args.place
          c.resolve_at.result c.resolve_at.ensures error.NotHeld (λ h. absurd cc) is),
      λ none. absurd (true≢false (sym held ∙ ap is_some none)),
    )
