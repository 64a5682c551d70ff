use Rattle.std.proofs.Common.{◌∙◌, ◌++◌, ◌∷◌, [], length, ap, arith, length-append}
use Rattle.std.proofs.lemmas.List.Elements.{All-rest, filter_map-append}
use Rattle.wasm_spec.specs.Module.{Export, exports_of_section}
use Rattle.form_reader.specs.Views.{export_of}
use Rattle.form_rules.specs.Sections.{entries_left}
use Rattle.module_sections.specs.Escapes.{exported_function}
use Rattle.module_sections.specs.Exported.{HasExportableIndex, entered, exported_functions}
use Rattle.module_sections.specs.EscapeLog.{EscapeLog}
use Rattle.module_sections.proofs.Filling.{here_still, came_more, came_all, noted_more}
use Rattle.module_sections.proofs.ExportsInTurn.{length-entered, length-names, entered-resolved, entered-pooled}
use Rattle.module_sections.proofs.exports.convert_exports.Goals as goal

pub add_export-requires-clause-room : goal.add_export-requires-clause-room
add_export-requires-clause-room c =
    let had = c.loop-export.invariant.entered in
    let rest = entries_left export_of exports_of_section c.next.new.self in
    omega (
      arith,
      ap length had.1 ∙ length-entered 0 had.0,
      ap length had.2,
      length-append had.0 (entries_left export_of exports_of_section c.loop-export.export-iterator),
      ap length c.in-Some.ensures.steps,
      length-names _ _ c.requires.names.0 c.requires.names.1,
    )

pub add_export-requires-clause-in_range : goal.add_export-requires-clause-in_range
add_export-requires-clause-in_range c =
    (here_still _ _ (export_of c.in-Some.export.now) c.in-Some.ensures.steps HasExportableIndex _ _
    (ap (λ (f : EscapeLog). f.count) c.loop-export.invariant.noted) c.loop-export.invariant.in_range).index

pub note_function-requires : goal.note_function-requires
note_function-requires c =
    here_still _ _ (export_of c.in-Some.export.now) c.in-Some.ensures.steps HasExportableIndex _ _
    (ap (λ (f : EscapeLog). f.count) c.loop-export.invariant.noted) c.loop-export.invariant.in_range

pub loop-export-preserved : goal.loop-export-preserved
loop-export-preserved c =
    let at = c.in-Some.ensures.steps in
    let e = export_of c.in-Some.export.now in
    let rest = entries_left export_of exports_of_section c.next.new.self in
    let had = c.loop-export.invariant in
    let came = had.entered.0 in
    record {
      in_range = All-rest (HasExportableIndex c.args.escaping.now.count) e _ _ at had.in_range;
      noted = noted_more c.loop-export.escaping c.note_function.new.escaping _ (exported_functions (e ∷ [])) _ _ c.in_ok-note_function.ensures
          (ap exported_functions at ∙ filter_map-append (λ (x : Export). exported_function x.kind x.index) (e ∷ []) rest) had.noted;
      entered = (came ++ e ∷ [], c.in_ok-add_export.ensures came had.entered.1, came_more _ _ e at came _ had.entered.2);
    }

pub returns-clause-exports : goal.returns-clause-exports
returns-clause-exports c =
    let had = c.loop-export.invariant.entered in
    entered-resolved _ _ c.requires.names.0 c.requires.names.1 _ (had.1 ∙ ap entered (came_all had.0 _ _ c.in-None.ensures.steps.0 had.2))

pub returns-clause-pooled : goal.returns-clause-pooled
returns-clause-pooled c =
    let had = c.loop-export.invariant.entered in
    entered-pooled _ _ c.requires.names.0 c.requires.names.1 _ (had.1 ∙ ap entered (came_all had.0 _ _ c.in-None.ensures.steps.0 had.2))
