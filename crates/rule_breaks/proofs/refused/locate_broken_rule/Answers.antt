use Rattle.std.proofs.Common.{◌≡◌, Err, ap, sym, subst, ◌∙◌}
use Rattle.form_reader.specs.Views.{module_of}
use Rattle.form_reader.specs.declared.error.ReadError.TheVariants as read
use Rattle.rule_spec.specs.Rules.{Keeps}
use Rattle.wasm_spec.specs.Module.{Module}
use Rattle.rule_breaks.proofs.PlacedEntries.{breaks_first}
use Rattle.rule_breaks.proofs.refused.locate_broken_rule.Goals as goal

pub returns-in-Err-Malformed-clause-none : goal.returns-in-Err-Malformed-clause-none
returns-in-Err-Malformed-clause-none c = λ none short m spelled plain.
    absurd (c.in-Err-Malformed.ensures.malformed (ap Err c.in-Err-Malformed.field-0-is) m spelled)

pub returns-in-Err-Unsupported-clause-none : goal.returns-in-Err-Unsupported-clause-none
returns-in-Err-Unsupported-clause-none c = λ none short m spelled plain.
    let both : read.Unsupported _ ≡ read.OutOfMemory = sym c.in-Err-Unsupported.field-0-is ∙ c.in-Err-Unsupported.ensures.complete short m spelled plain in
    absurd cc

pub returns-in-Ok-check-clause-none : goal.returns-in-Ok-check-clause-none
returns-in-Ok-check-clause-none c = λ none short m spelled plain.
    subst (λ (n : Module). Keeps n) (c.in-Ok.ensures.complete short m spelled plain) c.in-Ok-check.ensures.kept

pub locate_break-requires : goal.locate_break-requires
locate_break-requires c = c.in-Err-Invalid.ensures.first c.in-Err-Invalid.rule (ap Err c.in-Err-Invalid.field-0-is)

pub returns-in-Some-clause-first : goal.returns-in-Some-clause-first
returns-in-Some-clause-first c =
    breaks_first c.args.bytes.now (module_of c.in-Ok.form) c.in-Err-Invalid.rule c.in-Some.place c.in_ok-broken_at-in-Some.field-0 c.in-Ok.ensures.read
    c.in-Ok.ensures.no_interface_types (c.in-Err-Invalid.ensures.first c.in-Err-Invalid.rule (ap Err c.in-Err-Invalid.field-0-is))
    (rw c.in-Some.is at c.in_ok-place-in-Err-Invalid.ensures.first) c.in_ok-broken_at-in-Some.ensures

pub broken_at-requires-clause-before : goal.broken_at-requires-clause-before
broken_at-requires-clause-before c = c.in-Err-Invalid.ensures.first c.in-Err-Invalid.rule (ap Err c.in-Err-Invalid.field-0-is)
