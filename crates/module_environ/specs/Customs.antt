-- What a translation has of the custom sections of a module (core specification, appendix, custom
-- sections; branch hinting, binary format), and of its functions for a debugger.
use Rattle.std.specs.Prelude.{◌≡◌, ℕ, Bool, [], map, None, if◌then◌else◌}
use Rattle.std.specs.List.{list_any}
use Rattle.std.specs.Option.{option_map}
use Rattle.wasm_spec.specs.Module as plain
use Rattle.rule_spec.specs.Lists.{lists_of_module}
use Rattle.wasm_types.specs.declared.tunables.Tunables.{Tunables}
use Rattle.module_customs.specs.Kept.{kept_hint}
use Rattle.custom_sections.specs.NameLists.{NameLists}
use Rattle.module_customs.specs.Names.{module_names, KeepsNames}
use Rattle.module_customs.specs.Hints.{HintLists, module_hints, branch_hint_of}
use Rattle.module_customs.specs.DebugSections.{is_debug_section}
use Rattle.init_plan.specs.declared.translation.ModuleTranslation.{ModuleTranslation}
use Rattle.init_plan.specs.Views.{hints_of}
use Rattle.module_sections.specs.Entities.{text_at}
use Rattle.module_environ.specs.Metadata.{view_function, functions_asked}
use Rattle.interned_types.specs.Types.{look_up_in}

-- the names for a debugger, and of those otherwise what names functions
abbrev pub names_asked : Bool → plain.Module → NameLists
names_asked native m = let names = module_names native m in record names { module_name = if native then names.module_name else None }

-- the record has the name of the module in any case; names of locals are read only for a debugger
abbrev pub HasNames : Bool → plain.Module → ModuleTranslation → Type 0
HasNames native m t = record {
  of_module : option_map (text_at t.module.strings) t.module.name ≡ (module_names native m).module_name;
  section : KeepsNames (names_asked native m) t.debuginfo.name_section;
}

-- the hints of the last section without a fault, where the caller requires them
abbrev pub hints_asked : Bool → plain.Module → HintLists
hints_asked asked m = if asked then module_hints m else []

-- each function has those of its first entry
abbrev pub HasHints : Bool → plain.Module → ModuleTranslation → Type 0
HasHints asked m t = (function : ℕ) → hints_of t function ≡ option_map (map branch_hint_of) (kept_hint (hints_asked asked m) function)

abbrev pub HasCustoms : Tunables → plain.Module → ModuleTranslation → Type 0
HasCustoms tunables m t = record {
  names : HasNames tunables.debug_native m t;
  hints : HasHints tunables.branch_hinting m t;
  -- parameters and locals of the defined functions, for a debugger
  functions : map view_function t.debuginfo.wasm_file.funcs.items ≡ functions_asked (look_up_in m) (lists_of_module m) tunables.debug_native;
  -- whether there is debug information, which is not read
  debug : t.has_unparsed_debuginfo ≡ list_any is_debug_section m;
}

-- only names, hints, and the metadata of functions and of debug information may differ in a
-- translation
abbrev pub OnlyCustomsChange : ModuleTranslation → ModuleTranslation → Type 0
OnlyCustomsChange old new = new ≡ record old {
  «module» = record old.module { strings = new.module.strings; name = new.module.name };
  debuginfo = record old.debuginfo {
    name_section = new.debuginfo.name_section;
    wasm_file = record old.debuginfo.wasm_file { funcs = new.debuginfo.wasm_file.funcs };
  };
  has_unparsed_debuginfo = new.has_unparsed_debuginfo;
  private_parts = record old.private_parts { branch_hints = new.private_parts.branch_hints };
}
