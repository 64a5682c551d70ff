-- The types that a module names.
use Rattle.std.specs.Prelude.{List}
use Rattle.type_spec.specs.Names.{index_of as index_in}
use Rattle.wasm_types.specs.declared.index.EngineOrModuleTypeIndex.{EngineOrModuleTypeIndex}
use Rattle.wasm_module.specs.declared.module.Module.{Module}
use Rattle.wasm_module.specs.ModuleData.{module_data_of}
use Rattle.wasm_module.specs.ModuleShapes.{module_shape}

-- those of its type section, functions, tables, globals, tags and startup, in this order
abbrev pub types_of : Module → List EngineOrModuleTypeIndex
types_of m = module_shape.edges index_in (module_data_of m)
