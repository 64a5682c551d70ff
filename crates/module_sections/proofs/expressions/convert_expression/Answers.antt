use Rattle.std.proofs.Common.{◌<◌, ap, ◌∙◌, sym, subst, map}
use Rattle.std.specs.Prelude.{All}
use Rattle.wasm_index.specs.Index.{number_of}
use Rattle.module_sections.specs.EscapeLog.{after_escapes}
use Rattle.module_sections.proofs.Referring.{all-referred, after_escapes-referred}
use Rattle.module_sections.proofs.expressions.convert_expression.Goals as goal

pub note_escapes-requires : goal.note_escapes-requires
note_escapes-requires g c =
    let ops = c.args.expression.now.ops.items in
    let same = c.as_slice.ensures ∙ c.in_ok-converted.ensures.escaping in
    subst (All (λ f. number_of f < c.args.escaping.now.count)) (sym same) (all-referred c.args.escaping.now.count ops c.requires.in_range)

pub returns-clause-noted : goal.returns-clause-noted
returns-clause-noted g c =
    let same = c.as_slice.ensures ∙ c.in_ok-converted.ensures.escaping in
    after_escapes-referred c.args.escaping.now c.note_escapes.new.self c.args.expression.now.ops.items
    (c.in_ok-note_escapes.ensures ∙ ap (λ fs. after_escapes c.args.escaping.now (map number_of fs)) same)
