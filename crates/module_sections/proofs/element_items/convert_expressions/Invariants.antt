use Rattle.std.proofs.Common.{◌≡◌, map, take}
use Rattle.std.specs.List.{flat_map}
use Rattle.form_reader.specs.Views.{expression_of}
use Rattle.wasm_convert.specs.Constants.{const_ops_of}
use Rattle.module_sections.specs.Escapes.{referred}
use Rattle.module_sections.specs.EscapeLog.{after_escapes}
use Rattle.module_sections.proofs.element_items.convert_expressions.Given as goal

-- the expressions so far are converted, and their functions recorded
abbrev pub invariant-loop-expression : goal.invariant-loop-expression
invariant-loop-expression g l = record {
  converted : l.expressions.items
      ≡ map (const_ops_of ((goal.TypeConvert-dyn g l.env.now).look_up l.env.now.1)) (map expression_of (take l.expression-index l.list));
  noted : l.escaping ≡ after_escapes l.initial.escaping (flat_map referred (map expression_of (take l.expression-index l.list)));
}
