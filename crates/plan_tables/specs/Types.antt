-- What the tables say of types and functions.
use Rattle.std.specs.Prelude.{◌≡◌, map}
use Rattle.std.specs.declared.ops.Range.{Range}
use Rattle.wasm_index.specs.Index.{number_of}
use Rattle.init_plan.specs.declared.translation.ModuleTranslation.{ModuleTranslation}
use Rattle.module_types.specs.TypeList.{TypeList}
use Rattle.module_types.specs.Views.{TypeIndex}
use Rattle.plan_lines.specs.TypeLines.{listed_number}
use Rattle.plan_tables.specs.declared.record.TypesRecord.{TypesRecord}
use Rattle.plan_tables.specs.declared.rows.NumberRange.{NumberRange}

-- a group of interned types
abbrev pub index_range : Range TypeIndex → NumberRange
index_range range = record { begin = number_of range.start; end = number_of range.end }

pub record TellsTypes (t : ModuleTranslation) (types : TypeList) (r : TypesRecord) : Type 0 where
  -- the interned type of each type of the type section
  pub declared : r.declared.now ≡ map listed_number t.module.types
  pub groups : r.groups.now ≡ map index_range types.groups
  -- the interned type of each function
  pub functions : r.functions.now ≡ map (λ f. listed_number f.signature) t.module.functions
  -- its index among the functions that escape; the reserved index where it does not
  pub escapes : r.escapes.now ≡ map (λ f. number_of f.func_ref) t.module.functions
  pub signatures : r.signatures.now ≡ map number_of t.exported_signatures.items
