-- All texts of a record: the names of exports, of imports and of the module.
use Rattle.std.specs.Prelude.{ℕ, Bool, List, [], ◌++◌}
use Rattle.std.specs.List.{cons_option}
use Rattle.wasm_spec.specs.Module as plain
use Rattle.rule_spec.specs.Lists.{lists_of_module}
use Rattle.form_rules.specs.Names.{imported_names, exported_names}
use Rattle.module_customs.specs.Names.{module_names}
use Rattle.module_sections.specs.Pooled.{with_texts}

-- the name of the module, where it has one
abbrev pub own_name : Bool → plain.Module → List (List ℕ)
own_name native m = cons_option (module_names native m).module_name []

-- the names of exports, which are distinct, and those of imports and of the module, each where it
-- first occurs
abbrev pub pool_of : Bool → plain.Module → List (List ℕ)
pool_of native m = with_texts (exported_names (lists_of_module m).exports) (imported_names m ++ own_name native m)
