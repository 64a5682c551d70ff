use Rattle.std.proofs.Common.{◌∙◌, ◌+◌, ◌∷◌, ◌++◌, [], map, take, ap, sym, subst}
use Rattle.std.specs.List.{flat_map}
use Rattle.std.proofs.lemmas.List.{map-append}
use Rattle.form_reader.specs.Views.{expression_of}
use Rattle.wasm_convert.specs.Constants.{const_ops_of}
use Rattle.module_sections.specs.Convertible.{IsConvertible}
use Rattle.module_sections.specs.Escapes.{referred}
use Rattle.module_sections.specs.EscapeLog.{EscapeLog}
use Rattle.module_sections.proofs.BySection.{at-item, item-more, section-more}
use Rattle.module_sections.proofs.NotingEscapes.{noted-both}
use Rattle.module_sections.proofs.element_items.convert_expressions.Goals as goal

pub convert_expression-requires : goal.convert_expression-requires
convert_expression-requires g c =
    let known = (goal.TypeConvert-dyn g c.args.env.now).knows c.args.env.now.1 in
    subst (λ n. IsConvertible known n c.expression-item.result.ops.items) (sym (ap (λ (f : EscapeLog). f.count) c.loop-expression.invariant.noted))
    (at-item (IsConvertible known c.args.escaping.now.count) expression_of c.args.list.now c.loop-expression.expression-index c.expression-item.result
    c.loop-expression-test.true c.expression-item.is c.requires)

pub loop-expression-preserved : goal.loop-expression-preserved
loop-expression-preserved g c =
    let look = (goal.TypeConvert-dyn g c.args.env.now).look_up c.args.env.now.1 in
    let xs = c.args.list.now in
    let i = c.loop-expression.expression-index in
    let x = c.expression-item.result in
    let lt = c.loop-expression-test.true in
    record {
      converted = c.in_ok-push.ensures.items
          ∙ (λ j. c.loop-expression.invariant.converted j ++ c.in_ok-convert_expression.ensures.converted j ∷ [])
          ∙ sym (ap (map (const_ops_of look)) (item-more expression_of xs i x lt c.expression-item.is)
          ∙ map-append (const_ops_of look) (map expression_of (take i xs)) (x.ops.items ∷ []));
      noted = noted-both c.args.escaping.now c.loop-expression.escaping c.convert_expression.new.escaping
          (flat_map referred (map expression_of (take i xs)))
          (referred x.ops.items) (flat_map referred (map expression_of (take (i + 1) xs))) c.loop-expression.invariant.noted
          c.in_ok-convert_expression.ensures.noted (section-more referred expression_of xs i x lt c.expression-item.is);
    }
