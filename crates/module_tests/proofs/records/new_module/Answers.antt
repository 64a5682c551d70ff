use Rattle.std.proofs.Common.{ap}
use Rattle.wasm_module.specs.Record.{ModuleRecord}
use Rattle.module_tests.proofs.records.new_module.Goals as goal

pub returns-clause-strings : goal.returns-clause-strings
returns-clause-strings c = ap (λ (m : ModuleRecord). m.strings) c.in_ok-module.ensures

pub returns-clause-initializers : goal.returns-clause-initializers
returns-clause-initializers c = ap (λ (m : ModuleRecord). m.initializers) c.in_ok-module.ensures

pub returns-clause-functions : goal.returns-clause-functions
returns-clause-functions c = ap (λ (m : ModuleRecord). m.functions) c.in_ok-module.ensures

pub returns-clause-tables : goal.returns-clause-tables
returns-clause-tables c = ap (λ (m : ModuleRecord). m.tables) c.in_ok-module.ensures

pub returns-clause-memories : goal.returns-clause-memories
returns-clause-memories c = ap (λ (m : ModuleRecord). m.memories) c.in_ok-module.ensures

pub returns-clause-globals : goal.returns-clause-globals
returns-clause-globals c = ap (λ (m : ModuleRecord). m.globals) c.in_ok-module.ensures

pub returns-clause-tags : goal.returns-clause-tags
returns-clause-tags c = ap (λ (m : ModuleRecord). m.tags) c.in_ok-module.ensures

pub returns-clause-no_imports : goal.returns-clause-no_imports
returns-clause-no_imports c =
    (ap (λ (m : ModuleRecord). m.num_imported_funcs) c.in_ok-module.ensures, ap (λ (m : ModuleRecord). m.num_imported_tags) c.in_ok-module.ensures)
