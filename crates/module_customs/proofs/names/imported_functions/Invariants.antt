use Rattle.std.proofs.Common.{◌≡◌, map, take}
use Rattle.form_reader.specs.Views.{import_of}
use Rattle.module_customs.specs.Names.{functions_among}
use Rattle.module_customs.proofs.names.imported_functions.Given as goal

abbrev pub invariant-loop-import : goal.invariant-loop-import
invariant-loop-import l = l.count ≡ functions_among (map import_of (take l.import-index l.imports))
