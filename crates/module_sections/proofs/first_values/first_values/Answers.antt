use Rattle.std.proofs.Common.{ℕ, length, ap, ◌∙◌, arith}
use Rattle.std.specs.Prelude.{IfSome}
use Rattle.std.specs.List.{flat_map}
use Rattle.std.specs.Option.{option_map}
use Rattle.std.proofs.lemmas.List.{length_push}
use Rattle.std.proofs.lemmas.List.Elements.{All-rest}
use Rattle.wasm_spec.specs.Module.{TableDef}
use Rattle.form_reader.specs.Views.{table_of}
use Rattle.wasm_convert.specs.Constants.{const_ops_of}
use Rattle.module_sections.specs.Convertible.{IsConvertible}
use Rattle.module_sections.specs.Escapes.{referred_if_any}
use Rattle.module_sections.specs.Initialisers.{view_first_value}
use Rattle.module_sections.specs.EscapeLog.{EscapeLog}
use Rattle.module_sections.proofs.Filling.{here_still, made_more, noted_more}
use Rattle.module_sections.proofs.first_values.first_values.Goals as goal

pub first_value-requires : goal.first_value-requires
first_value-requires g c =
    let knows = (goal.TypeConvert-dyn g c.args.env.now).knows c.args.env.now.1 in
    here_still _ _ (table_of c.in-Some.table.now) c.in-Some.ensures.steps (λ (n : ℕ) (t : TableDef). IfSome t.init (IsConvertible knows n))
    _ _ (ap (λ (f : EscapeLog). f.count) c.loop-table.invariant.noted) c.loop-table.invariant.convertible

pub loop-table-preserved : goal.loop-table-preserved
loop-table-preserved g c =
    let env = goal.TypeConvert-dyn g c.args.env.now in
    let at = c.in-Some.ensures.steps in
    let table = table_of c.in-Some.table.now in
    let had = c.loop-table.invariant in
    record {
      convertible = All-rest (λ (t : TableDef). IfSome t.init (IsConvertible (env.knows c.args.env.now.1) c.args.escaping.now.count)) table _ _ at had.convertible;
      few = omega (arith, ap length at, had.few, ap length c.in_ok-push.ensures.ok ∙ length_push c.loop-table.values _);
      values = made_more _ _ table at view_first_value (λ (t : TableDef). option_map (const_ops_of (env.look_up c.args.env.now.1)) t.init) c.loop-table.values
          c.push.new.self c.in_ok-first_value.field-0 _ c.in_ok-first_value.ensures.value c.in_ok-push.ensures.ok had.values;
      noted = noted_more c.loop-table.escaping c.first_value.new.escaping _ (referred_if_any table.init) _ _ c.in_ok-first_value.ensures.noted
          (ap (flat_map (λ (t : TableDef). referred_if_any t.init)) at) had.noted;
    }
