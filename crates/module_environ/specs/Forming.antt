-- What the form of a module becomes, and why it has no translation.
use Rattle.std.specs.Prelude.{◌≡◌, ℕ, Bool, true}
use Rattle.wasm_spec.specs.Module.{function_import}
use Rattle.wasm_spec.specs.Module as plain
use Rattle.rule_spec.specs.Lists.{lists_of_module}
use Rattle.rule_spec.specs.Rules.{Satisfies, Keeps, KeepsBefore}
use Rattle.wasm_types.specs.declared.tunables.Tunables.{Tunables}
use Rattle.module_types.specs.Builder.{BuilderState, builder_view}
use Rattle.init_plan.specs.declared.translation.ModuleTranslation.{ModuleTranslation}
use Rattle.module_environ.specs.declared.error.EnvironError.{EnvironError}
use Rattle.module_environ.specs.declared.error.EnvironError.TheVariants as refusal
use Rattle.module_environ.specs.Customs.{HasCustoms}
use Rattle.module_sections.specs.Entities.{count_of}
use Rattle.module_environ.specs.Pooled.{pool_of}
use Rattle.module_environ.specs.Translation.{startup_when, HasTypes}
use Rattle.module_sections.specs.Sections.{HasSections}
use Rattle.module_environ.specs.Translated.{starts_always, HoldsInternedTypes}

-- all of a translation except its bytes and its code
pub record IsFormed (tunables : Tunables) (validator : ℕ) (m : plain.Module) (old new : ModuleTranslation) (b : BuilderState) : Type 0 where
  pub keeps : Keeps m
  pub types : HasTypes m validator new
  pub sections : HasSections tunables.debug_guest m new
  pub customs : HasCustoms tunables m new
  pub strings : new.module.strings ≡ pool_of tunables.debug_native m
  pub imports : new.debuginfo.wasm_file.imported_func_count ≡ count_of function_import (plain.imports m)
  pub startup : new.module.startup ≡ startup_when m (starts_always m)
  pub builder : HoldsInternedTypes m (builder_view b)
  pub index : new.module.module_index ≡ old.module.module_index
  pub offset : new.wasm_module_offset ≡ old.wasm_module_offset

-- a rule is broken, or the builder was poisoned
abbrev pub FormCause : plain.Module → Bool → EnvironError → Type 0
FormCause m poisoned (refusal.Invalid rule) = (¬ Satisfies rule (lists_of_module m)) × KeepsBefore rule m
FormCause m poisoned refusal.Poisoned = poisoned ≡ true
FormCause m poisoned refusal.OutOfMemory = Unit {0}
FormCause m poisoned _ = ⊥
