use Rattle.std.proofs.Common.{◌++◌, ◌∷◌, [], List, length, ap, subst, arith, length-append}
use Rattle.wasm_spec.specs.Module.{Import, imports_of_section}
use Rattle.form_reader.specs.Views.{import_of}
use Rattle.form_rules.specs.Sections.{entries_left}
use Rattle.module_sections.specs.Imported.{BecomeInitializers}
use Rattle.module_sections.proofs.Filling.{came_more, came_all}
use Rattle.module_sections.proofs.ImportsInTurn.{counted-few, room-for-imports, imported-step}
use Rattle.module_sections.proofs.imports.convert_imports.Goals as goal

pub convert_import-requires-clause-few : goal.convert_import-requires-clause-few
convert_import-requires-clause-few c =
    let had = c.loop-import.invariant in
    counted-few had.0 c.loop-import.counts had.1.counted (omega (arith, c.requires.few.imports, ap length had.2, length-append had.0 (entries_left import_of imports_of_section c.loop-import.import-iterator)))

pub convert_import-requires-clause-room : goal.convert_import-requires-clause-room
convert_import-requires-clause-room c =
    let had = c.loop-import.invariant in
    room-for-imports c.args.strings.now had.0 c.loop-import.strings c.loop-import.initializers.items c.loop-import.counts had.1 c.requires.few_texts
    (omega (arith, c.requires.few.imports, ap length had.2, length-append had.0 (entries_left import_of imports_of_section c.loop-import.import-iterator)))

pub loop-import-preserved : goal.loop-import-preserved
loop-import-preserved c =
    let had = c.loop-import.invariant in
    let i = import_of c.in-Some.import.now in
    let one = c.in_ok-initializer in (
      had.0 ++ i ∷ [],
      imported-step c.args.strings.now had.0 i c.loop-import.strings c.convert_import.new.strings c.loop-import.initializers.items c.push.new.self.items one.initializer
          c.loop-import.counts c.convert_import.new.counts one.ensures.counts one.ensures.pool one.ensures.pooled one.ensures.import
          c.in_ok-push.ensures.items had.1,
      came_more _ _ i c.in-Some.ensures.steps had.0 _ had.2,
    )

pub returns : goal.returns
returns c =
    let had = c.loop-import.invariant in
    let all = subst (λ (is : List Import). BecomeInitializers c.args.strings.now is c.loop-import.strings c.loop-import.initializers.items c.loop-import.counts)
    (came_all had.0 _ _ c.in-None.ensures.steps.0 had.2) had.1 in
    record { imports = all.entities; counts = all.counted; pool = all.pool; pooled = all.pooled }
