-- Functions, startups and modules as data over the types that they name. `H` is the reference in a
-- concrete heap type, and `R` every other reference to a type.
use Rattle.std.specs.Prelude.{List, [], map}
use Rattle.wasm_index.specs.declared.index.Index.{Index}
use Rattle.wasm_types.specs.declared.index.EngineOrModuleTypeIndex.{EngineOrModuleTypeIndex}
use Rattle.wasm_types.specs.EntityData.{TableData, GlobalData, TagData}
use Rattle.wasm_types.specs.EntityViews.{table_of, global_of, tag_of}
use Rattle.wasm_types.specs.ValueViews.{Name}
use Rattle.wasm_module.specs.declared.function.FuncRefSpace.{FuncRefSpace}
use Rattle.wasm_module.specs.declared.function.FunctionType.{FunctionType}
use Rattle.wasm_module.specs.declared.startup.ModuleStartup.{ModuleStartup}
use Rattle.wasm_module.specs.declared.startup.ModuleStartup.TheVariants as startup
use Rattle.wasm_module.specs.declared.module.Module.{Module}

module _ (R : Type 0) where
  -- a function: its type, and its number among the functions that escape
  pub record FunctionData : Type 0 where
    pub signature : R
    pub func_ref : Index FuncRefSpace

  pub data StartupData : Type 0 where
    NoStartup : StartupData
    AlwaysStarts : (type : R) → StartupData
    StartsForMemories : (type : R) → StartupData

-- a module: types, functions, tables, globals, tags and startup, and all else that it has
abbrev pub ModuleData : Type 0 → Type 0 → Type 0
ModuleData H R =
    List R × (List (FunctionData R) × (List (TableData H) × (List (GlobalData H) × (List (TagData R) × (StartupData R × Module)))))

-- ---- the content of the record, as such data

abbrev pub type_of_space : EngineOrModuleTypeIndex → EngineOrModuleTypeIndex
type_of_space index = index

abbrev pub function_of : FunctionType → FunctionData EngineOrModuleTypeIndex
function_of f = record { signature = f.signature; func_ref = f.func_ref }

abbrev pub startup_of : ModuleStartup → StartupData EngineOrModuleTypeIndex
startup_of startup.None = NoStartup
startup_of (startup.Always type) = AlwaysStarts type
startup_of (startup.IfMemoriesNeedInit type) = StartsForMemories type

-- all of a module except the types that it names; the types of passive elements are not among those
abbrev pub rest_of : Module → Module
rest_of m = record m { types = []; functions = []; tables = []; globals = []; tags = []; startup = startup.None }

abbrev pub module_data_of : Module → ModuleData Name EngineOrModuleTypeIndex
module_data_of m = (
  map type_of_space m.types,
  (map function_of m.functions, (map table_of m.tables, (map global_of m.globals, (map tag_of m.tags, (startup_of m.startup, rest_of m))))),
)
