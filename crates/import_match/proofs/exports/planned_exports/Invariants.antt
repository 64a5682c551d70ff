use Rattle.std.proofs.Common.{◌≡◌, ◌++◌, None, map, All}
use Rattle.std.specs.List.{filter_map}
use Rattle.type_registry.specs.Keys.{key_number}
use Rattle.type_registry.specs.Registry.{registry_of}
use Rattle.wasm_module.specs.Record.{record_of}
use Rattle.import_match.specs.Rules.{types_in, HasEngineTypes}
use Rattle.import_match.specs.Definitions.{Definition, found}
use Rattle.import_match.specs.Kept.{definition_of}
use Rattle.import_match.specs.Linking.{engine_definitions, export_of, exported, IsExportResolved}
use Rattle.import_match.specs.Held.{IsTypeOf}
use Rattle.import_match.proofs.exports.planned_exports.Given as goal

-- what is planned, and what the remaining exports give, are all
abbrev pub invariant-loop-name : goal.invariant-loop-name
invariant-loop-name l = record {
  listed : map definition_of l.planned.items
      ++ engine_definitions (registry_of l.registry) (key_number l.key) (filter_map (export_of (record_of l.module) l.as_module) l.name-iterator)
      ≡ exported l.registry l.key l.module l.as_module;
  resolved : All (IsExportResolved (record_of l.module)) l.name-iterator;
  types : All (λ (d : Definition). All (IsTypeOf (registry_of l.registry) (key_number l.key)) (types_in d.1))
      (filter_map (export_of (record_of l.module) l.as_module) l.name-iterator);
  engine : All (λ (d : Definition). HasEngineTypes d.1) (map definition_of l.planned.items);
  new : All (λ (d : Definition). found l.definitions d.0 ≡ None) (map definition_of l.planned.items);
}
