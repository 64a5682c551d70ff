use Rattle.std.proofs.Common.{◌++◌, ◌∷◌, [], List, length, sym, ap, subst, arith, length-append}
use Rattle.std.specs.List.{flat_map}
use Rattle.std.proofs.lemmas.List.Elements.{All-rest}
use Rattle.wasm_spec.specs.Module.{Element, elements_of_section}
use Rattle.form_reader.specs.Views.{element_of}
use Rattle.form_reader.specs.SectionRows.{element_segment}
use Rattle.form_rules.specs.Walk.{walk_left}
use Rattle.form_rules.proofs.Taking.{taken}
use Rattle.module_sections.specs.Escapes.{item_functions}
use Rattle.module_sections.specs.EscapeLog.{EscapeLog, after_escapes}
use Rattle.module_sections.specs.Segments.{IsElementConvertible, AreElementsConvertible}
use Rattle.module_sections.proofs.Filling.{here_still, came_more, noted_more}
use Rattle.module_sections.proofs.elements.convert_elements.Goals as goal

pub loop-elements-init : goal.loop-elements-init
loop-elements-init g c =
    let env = goal.TypeConvert-dyn g c.args.env.now in
    let start = c.walk_of-elements.ensures in
    record {
      convertible = subst (AreElementsConvertible (env.knows c.args.env.now.1) c.args.escaping.now.count) (sym start) c.requires.convertible;
      holds = ([], c.new-segments.ensures (env.look_up c.args.env.now.1), start);
      noted = ap (λ (es : List Element). after_escapes c.args.escaping.now (flat_map (λ (e : Element). item_functions e.items) es)) start;
    }

pub add-requires-clause-room : goal.add-requires-clause-room
add-requires-clause-room g c =
    let held = c.loop-elements.invariant.holds in
    let at = taken _ _ _ _ _ c.if-branch.true c.in_ok-advance.ensures c.entry.ensures in
    (held.0, held.1, omega (arith, c.requires.few.elements, ap length held.2, length-append held.0 (walk_left element_segment.read element_of elements_of_section c.loop-elements.elements), ap length at))

pub add-requires-clause-convertible : goal.add-requires-clause-convertible
add-requires-clause-convertible g c =
    let at = taken _ _ _ _ _ c.if-branch.true c.in_ok-advance.ensures c.entry.ensures in
    here_still _ _ (element_of c.entry.result.now) at (IsElementConvertible ((goal.TypeConvert-dyn g c.args.env.now).knows c.args.env.now.1))
    _ _ (ap (λ (f : EscapeLog). f.count) c.loop-elements.invariant.noted) c.loop-elements.invariant.convertible

pub loop-elements-preserved : goal.loop-elements-preserved
loop-elements-preserved g c =
    let at = taken _ _ _ _ _ c.if-branch.true c.in_ok-advance.ensures c.entry.ensures in
    let element = element_of c.entry.result.now in
    let had = c.loop-elements.invariant in
    record {
      convertible = All-rest (IsElementConvertible ((goal.TypeConvert-dyn g c.args.env.now).knows c.args.env.now.1) c.args.escaping.now.count) element _ _ at
          had.convertible;
      holds = (had.holds.0 ++ element ∷ [], c.in_ok-add.ensures.added had.holds.0 had.holds.1, came_more _ _ element at had.holds.0 _ had.holds.2);
      noted = noted_more c.loop-elements.escaping c.add.new.escaping _ (item_functions element.items) _ _ c.in_ok-add.ensures.noted
          (ap (flat_map (λ (e : Element). item_functions e.items)) at) had.noted;
    }
