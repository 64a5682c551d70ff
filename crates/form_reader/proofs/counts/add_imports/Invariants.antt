use Rattle.std.proofs.Common.{[], ◌∷◌, map, take}
use Rattle.wasm_spec.specs.Module.{Imports}
use Rattle.form_reader.specs.Counted.{CountsMore}
use Rattle.form_reader.specs.Views.{import_of}
use Rattle.form_reader.proofs.counts.add_imports.Given as goal

-- the imports so far are counted
abbrev pub invariant-loop-import : goal.invariant-loop-import
invariant-loop-import l = CountsMore l.initial.counts l.counts (Imports (map import_of (take l.import-index l.imports)) ∷ [])
