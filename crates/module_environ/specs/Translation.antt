-- The translation of a module, before its memories and tables are planned: each field is a list of
-- the module (core specification, 2.5).
use Rattle.std.specs.Prelude.{◌≡◌, ℕ, Bool, true, false, List, [], ◌∷◌, length, map, not, Some}
use Rattle.std.specs.List.{flat_map}
use Rattle.wasm_spec.specs.Module.{function_import}
use Rattle.wasm_spec.specs.Module as plain
use Rattle.rule_spec.specs.Lists.{lists_of_module}
use Rattle.form_reader.specs.Views.{body_of}
use Rattle.form_types.specs.Numbered.{AreNumbered}
use Rattle.form_types.specs.Types.{TypesData}
use Rattle.wasm_index.specs.declared.index.Index.{Index}
use Rattle.wasm_index.specs.declared.spaces.StaticModuleSpace.{StaticModuleSpace}
use Rattle.wasm_types.specs.declared.tunables.Tunables.{Tunables}
use Rattle.wasm_module.specs.declared.startup.ModuleStartup.{ModuleStartup}
use Rattle.wasm_module.specs.declared.startup.ModuleStartup.TheVariants as startup
use Rattle.replay_spec.specs.Startup.{leaves_nothing}
use Rattle.init_plan.specs.declared.translation.ModuleTranslation.{ModuleTranslation}
use Rattle.init_plan.specs.Views.{types_of}
use Rattle.interned_types.specs.Types.{declared, interned_list, type_index}
use Rattle.module_environ.specs.Customs.{HasCustoms}
use Rattle.interned_types.specs.Tagged.{tags_of}
use Rattle.module_sections.specs.Entities.{count_of}
use Rattle.module_environ.specs.Pooled.{pool_of}
use Rattle.module_sections.specs.Sections.{HasSections}

-- where the code section's contents begin, and 0 without one
abbrev pub code_places : plain.Payload → List ℕ
code_places (plain.Code place bodies) = place ∷ []
code_places _ = []

abbrev pub first_or_zero : List ℕ → ℕ
first_or_zero [] = 0
first_or_zero (n ∷ ns) = n

-- the type of the startup function is the last of the interned ones
abbrev pub startup_when : plain.Module → Bool → ModuleStartup
startup_when m false = startup.None
startup_when m true = startup.Always (type_index (length (interned_list m false).types))

-- the bodies of the defined functions, and where the code is
abbrev pub HasCode : plain.Module → ModuleTranslation → Type 0
HasCode m t = record {
  bodies : map (λ input. body_of input.body) t.function_body_inputs ≡ (lists_of_module m).bodies;
  place : t.debuginfo.wasm_file.code_section_offset ≡ first_or_zero (flat_map code_places m);
  imports : t.debuginfo.wasm_file.imported_func_count ≡ count_of function_import (plain.imports m);
}

-- declared types and tags, and the types of the module by ids, of the validator
abbrev pub HasTypes : plain.Module → ℕ → ModuleTranslation → Type 0
HasTypes m validator t = record {
  declared : t.module.types ≡ map type_index (declared m);
  tags : t.module.tags ≡ tags_of m;
  types : TypesData;
  set : types_of t ≡ Some types;
  numbered : AreNumbered m types;
  made : types.validator ≡ validator;
}

-- the translation of the module that these bytes spell
pub record IsTranslation (tunables : Tunables) (module_index : Index StaticModuleSpace) (validator : ℕ) (bytes : List ℕ) (m : plain.Module)
    (t : ModuleTranslation) : Type 0 where
  pub types : HasTypes m validator t
  pub sections : HasSections tunables.debug_guest m t
  pub customs : HasCustoms tunables m t
  pub strings : t.module.strings ≡ pool_of tunables.debug_native m
  pub code : HasCode m t
  pub startup : t.module.startup ≡ startup_when m (not (leaves_nothing (lists_of_module m)))
  pub index : t.module.module_index ≡ module_index
  pub wasm : t.wasm.now ≡ bytes
  pub offset : t.wasm_module_offset ≡ 0
