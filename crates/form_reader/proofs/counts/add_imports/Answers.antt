use Rattle.std.proofs.Common.{List, [], ◌∷◌}
use Rattle.std.proofs.lemmas.List.{get_or_default}
use Rattle.wasm_spec.specs.Module.{Import, Imports}
use Rattle.form_reader.specs.Views.{import_of}
use Rattle.form_reader.proofs.Counting.{imports_join, CountsMore-next, SizesFit-item}
use Rattle.form_reader.proofs.counts.add_imports.Goals as goal

pub add_import-requires : goal.add_import-requires
add_import-requires c =
    SizesFit-item import_of (λ (is : List Import). Imports is ∷ []) imports_join c.args.counts.now c.loop-import.counts c.args.imports.now
    c.loop-import.import-index _ c.loop-import-test.true
    (get_or_default c.args.imports.now c.loop-import.import-index _ _ c.loop-import-test.true) c.requires c.loop-import.invariant

pub loop-import-preserved : goal.loop-import-preserved
loop-import-preserved c =
    CountsMore-next import_of (λ (is : List Import). Imports is ∷ []) imports_join c.args.counts.now c.loop-import.counts
    c.add_import.new.counts c.args.imports.now c.loop-import.import-index _ c.loop-import-test.true
    (get_or_default c.args.imports.now c.loop-import.import-index _ _ c.loop-import-test.true) c.loop-import.invariant c.add_import.ensures
