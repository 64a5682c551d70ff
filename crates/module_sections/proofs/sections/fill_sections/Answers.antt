use Rattle.std.proofs.Common.{◌≡◌, ◌∙◌, length, map, sym, ap, subst, arith, ◌-◌}
use Rattle.std.specs.List.{enumerate_from, range_with_len}
use Rattle.std.proofs.lemmas.List.{length-map}
use Rattle.std.proofs.lemmas.List.FromFn.{length-enumerate_from}
use Rattle.wasm_spec.specs.Module as plain
use Rattle.rule_spec.specs.Lists.{lists_of_module}
use Rattle.wasm_index.specs.Index.{number_of}
use Rattle.module_sections.specs.Entities.{function_types}
use Rattle.module_sections.specs.Escapes.{escaping, references, AreSignatures}
use Rattle.module_sections.specs.Filling.{module_in}
use Rattle.module_sections.specs.EscapeLog.{EscapeLog, after_escapes}
use Rattle.interned_types.specs.Types.{interned_at}
use Rattle.module_sections.proofs.FilledSections.{functions-named, starts-below, functions-are, imported-are, behind, all-noted, noted-where, noted-not, entities-filled, texts-filled, counts-filled, heap-filled, data-filled}
use Rattle.form_rules.specs.Names.{imported_names, exported_names}
use Rattle.module_sections.proofs.GrownPool.{grows-within}
use Rattle.module_sections.proofs.sections.fill_sections.Goals as goal
use Rattle.module_sections.proofs.sections.fill_sections.Goals.{then-debugged+in_ok-note_escape_range-2, else-debugged}

pub function_types-requires-clause-types : goal.function_types-requires-clause-types
function_types-requires-clause-types g c =
    functions-named c.args.lists.now c.requires.gathered c.requires.of_module _ c.requires.listed _ c.as_slice-functions.ensures.value

pub exported_signatures-requires-clause-types : goal.exported_signatures-requires-clause-types
exported_signatures-requires-clause-types g c =
    functions-named c.args.lists.now c.requires.gathered c.requires.of_module _ c.requires.listed _ c.as_slice-functions.ensures.value

pub fill_initialisers-requires-clause-names : goal.fill_initialisers-requires-clause-names
fill_initialisers-requires-clause-names g c =
    let m = module_in c.args.lists.now in
    let grows = grows-within (length (imported_names m)) (imported_names m) (exported_names (lists_of_module m).exports)
    c.fill_entities.new.entities.strings c.in_ok-fill_entities.ensures.texts (omega arith) in
    (grows.added, grows.whole)

pub start_function-translation-requires : goal.start_function-translation-requires
start_function-translation-requires g c = starts-below c.args.lists.now c.requires.gathered

pub returns-clause-sections : goal.returns-clause-sections
returns-clause-sections g c =
    let l = c.args.lists.now in
    let m = module_in l in
    let gathered = c.requires.gathered in
    let first = c.in_ok-fill_entities.ensures in
    let second = c.in_ok-fill_initialisers.ensures in
    let t = c.fill_initialisers.new.translation in
    let new = c.requires.new in
    let functions = c.as_slice-functions.ensures.value ∙ functions-are l gathered in
    let made = c.in_ok-translation.ensures m c.requires.listed functions in
    let all = enumerate_from 0 (plain.functions m) in
    let counted : length c.in_ok-translation.field-0 ≡ length c.as_slice-functions.result.now =
    ap length made ∙ length-map all _ ∙ length-enumerate_from 0 (plain.functions m) ∙ ap length (sym functions) in
    let after : c.if-debugged.escaping ≡ after_escapes c.fill_initialisers.new.escaping (behind c.args.debugged (lists_of_module m)) =
    elim c.if-debugged.branch [
      | then-debugged+in_ok-note_escape_range-2 w ↦
          noted-where (lists_of_module m) c.fill_initialisers.new.escaping c.if-debugged.escaping c.args.debugged w.if-debugged.true l.imported_functions
          (w.len-then-debugged.result - l.imported_functions) (imported-are l gathered)
          (omega (arith, w.len-then-debugged.ensures, ap length (functions-are l gathered), imported-are l gathered))
          (w.escaping-is ∙ w.in_ok-note_escape_range-2.ensures)
      | else-debugged w ↦
          noted-not (lists_of_module m) c.fill_initialisers.new.escaping c.if-debugged.escaping c.args.debugged w.if-debugged.false w.escaping-is
    ] in
    let whole : c.if-debugged.escaping ≡ after_escapes c.in_ok-escaping.escaping (references c.args.debugged (lists_of_module m)) =
    all-noted c.args.debugged (lists_of_module m) c.in_ok-escaping.escaping c.note_escape_range.new.self
    c.fill_initialisers.new.escaping c.if-debugged.escaping
    (c.in_ok-note_escape_range.ensures ∙ ap (λ n. after_escapes c.in_ok-escaping.escaping (range_with_len 0 n)) (imported-are l gathered)) second.noted after in
    let noted : c.if-debugged.escaping.order ≡ escaping c.args.debugged (lists_of_module m) =
    ap (λ (f : EscapeLog). f.order) whole
    ∙ ap (λ (f : EscapeLog). (after_escapes f (references c.args.debugged (lists_of_module m))).order) c.in_ok-escaping.ensures in
    let start = c.start_function-translation in
    record {
      entities = entities-filled m _ _ new _ first _ _ t second start.result start.ensures;
      counts = counts-filled m _ _ new _ first _ _ t second;
      escapes = record {
        functions = made ∙ ap (function_types m) noted;
        count = c.len-translation.ensures.len ∙ ap length noted;
        below = omega (
          arith,
          c.len-translation.ensures.few,
          counted,
          ap (λ (f : EscapeLog). f.count) whole,
          ap (λ (f : EscapeLog). f.count) c.in_ok-escaping.ensures,
          ap length c.as_slice-functions.ensures.value,
        );
        signatures =
            let types = map (interned_at m) (plain.functions m) in
            subst (λ order. AreSignatures order types (map number_of c.in_ok-translation-2.field-0.items)) noted
            (c.in_ok-translation-2.ensures m c.requires.listed functions);
      };
      heap = heap-filled m _ _ new _ first _ _ t second;
      globals = second.globals;
      elements = second.elements;
      data_segments = data-filled m _ _ new _ first _ _ t second;
    }

pub returns-clause-texts : goal.returns-clause-texts
returns-clause-texts g c =
    texts-filled (module_in c.args.lists.now) _ _ c.requires.new _ c.in_ok-fill_entities.ensures _ _ _ c.in_ok-fill_initialisers.ensures
