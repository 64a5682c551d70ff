use Rattle.std.proofs.Common.{◌∷◌, map, ap, subst, sym, ◌∙◌}
use Rattle.std.specs.Prelude.{None, Some, codes, string_bytes}
use Rattle.command_words.specs.declared.command.Command.{Command}
use Rattle.command_words.specs.Commands.{Chooses, plain_command}
use Rattle.command_words.proofs.Heads.{plan-only, generates-only}
use Rattle.command_words.proofs.Usable.{chosen-is-usable}
use Rattle.command_words.proofs.words.read_words.Goals as goal

pub returns-in-plan-clause-complete : goal.returns-in-plan-clause-complete
returns-in-plan-clause-complete c = λ command named.
    let At : Command → Type 0 = λ plain. Chooses (map string_bytes c.in_ok-first.others.now) plain command in
    let first =
    ap (map string_bytes) c.in_ok-first.ensures.cases.0
    ∙ ap (λ word. word ∷ map string_bytes c.in_ok-first.others.now) (sym c.as_str.ensures.value ∙ c.in-plan.is) in
    c.with_options.ensures.complete command (subst At (sym c.plain.ensures) (plan-only _ _ command first named))

pub returns-in-plan-clause-usable : goal.returns-in-plan-clause-usable
returns-in-plan-clause-usable c = chosen-is-usable _ None _ _ c.plain.ensures tt c.with_options.ensures.chosen

pub returns-in_ok-number-in-generate-2-clause-complete : goal.returns-in_ok-number-in-generate-2-clause-complete
returns-in_ok-number-in-generate-2-clause-complete c = λ command named.
    let At : Command → Type 0 = λ plain. Chooses (map string_bytes c.in_ok-number-in-generate.options.now) plain command in
    let first =
    ap (map string_bytes) c.in_ok-first.ensures.cases.0
    ∙ ap (λ word. word ∷ map string_bytes c.in_ok-first.others.now) (sym c.as_str.ensures.value ∙ c.in-generate.is)
    ∙ ap (λ others. codes "generate" ∷ map string_bytes others) c.in_ok-number-in-generate.ensures.cases.0 in
    let generates = generates-only _ _ _ command first named in
    let read = c.read_made.ensures.complete generates.n generates.made (c.deref.ensures ∙ generates.spelled) in
    c.with_options-in-generate.ensures.complete command
    (subst At (ap plain_command (sym read ∙ c.in_ok-number-in-generate-2.was) ∙ sym c.plain-in-generate.ensures) generates.chooses)

pub returns-in_ok-number-in-generate-2-clause-usable : goal.returns-in_ok-number-in-generate-2-clause-usable
returns-in_ok-number-in-generate-2-clause-usable c =
    chosen-is-usable _ (Some c.in_ok-number-in-generate-2.number) _ _ c.plain-in-generate.ensures c.in_ok-number-in-generate-2.ensures.spelled.1
    c.with_options-in-generate.ensures.chosen
