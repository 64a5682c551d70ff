use Rattle.std.proofs.Common.{◌≡◌, ◌+◌, ◌++◌, ◌∙◌, length, map, ap, subst, arith, append_assoc}
use Rattle.std.proofs.lemmas.Grind.{common_steps}
use Rattle.std.proofs.lemmas.List.{length-append}
use Rattle.std.specs.List.{flat_map}
use Rattle.form_reader.specs.Views.{expression_of, element_of}
use Rattle.segment_tables.specs.Expressions.{HasExpressions}
use Rattle.segment_tables.specs.Elements.{offsets_in, expressions_in, element_expressions, element_row}
use Rattle.segment_tables.proofs.Rows.{expressions_length, has_element}
use Rattle.segment_tables.proofs.elements.push_element.Goals as goal

pub returns : goal.returns
returns c = λ es has.
    let e = element_of c.args.element.now in
    let before = flat_map element_expressions es in
    let pushed : HasExpressions (before ++ offsets_in e.kind) c.push_offset.new.rows = c.in_ok-offset.ensures.pushed before has.expressions in
    let listed : map expression_of c.expressions_in.result.now ≡ expressions_in e.items = c.expressions_in.ensures in
    let begin : length c.push_offset.new.rows.parts.items ≡ length before + length (offsets_in e.kind)
    = expressions_length (before ++ offsets_in e.kind) c.push_offset.new.rows pushed ∙ length-append before (offsets_in e.kind) in
    let first : c.len.result ≡ length c.args.out.now.functions.items = grind (arith, common_steps) in
    has_element c.args.out.now (record { rows = c.push.new.self; functions = c.push_functions.new.rows }) c.args.rows.now c.push_expressions.new.rows es e _ has
    (c.element_row-row.ensures (length before) (c.in_ok-offset.ensures.number before has.expressions) (grind (arith, common_steps, begin))
    ∙ ap (λ k. element_row k (length before) e) first)
    c.in_ok-push.ensures.items
    (c.in_ok-push_functions.ensures ∙ ap (λ fs. c.args.out.now.functions.items ++ fs) c.functions_in.ensures)
    (subst (λ xs. HasExpressions xs c.push_expressions.new.rows)
    (append_assoc before (offsets_in e.kind) (map expression_of c.expressions_in.result.now) ∙ ap (λ xs. before ++ (offsets_in e.kind ++ xs)) listed)
    (c.in_ok-push_expressions.ensures (before ++ offsets_in e.kind) pushed))
