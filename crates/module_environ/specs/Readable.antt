-- Which bytes spell a module that can be read, and why others are refused (core specification, 5.5,
-- modules).
use Rattle.std.specs.Prelude.{◌≡◌, ℕ, ◌^◌, ◌<◌, ◌≤◌, Bool, true, List, length, Result, Ok, Err}
use Rattle.wasm_spec.specs.declared.operators.What.{What}
use Rattle.wasm_spec.specs.Module.{Module}
use Rattle.wasm_spec.specs.Grammar.{Spells, Stops}
use Rattle.wasm_spec.specs.Interfaces.{HasNoInterfaceTypes}
use Rattle.rule_spec.specs.declared.rules.Rule.{Rule}
use Rattle.rule_spec.specs.Lists.{lists_of_module}
use Rattle.rule_spec.specs.Rules.{Satisfies, KeepsBefore}
use Rattle.module_environ.specs.declared.error.EnvironError.{EnvironError}
use Rattle.module_environ.specs.declared.error.EnvironError.TheVariants as refusal

-- the bytes, fewer than 2 ^ 30, spell the module, and no custom section of it is one of interface
-- types
pub record IsReadable (bytes : List ℕ) (m : Module) : Type 0 where
  pub short : length bytes < 2 ^ 30
  pub spelled : Spells bytes m
  pub no_interface_types : HasNoInterfaceTypes m

-- the module breaks the rule, and none of a lower number
pub record Breaks (rule : Rule) (bytes : List ℕ) : Type 0 where
  pub meaning : Module
  pub read : IsReadable bytes meaning
  pub broken : ¬ Satisfies rule (lists_of_module meaning)
  pub first : KeepsBefore rule meaning

-- why the bytes have no translation, with a builder that was poisoned or not
abbrev pub HasTranslationCause : List ℕ → Bool → EnvironError → Type 0
HasTranslationCause bytes poisoned refusal.Malformed = ((m : Module) → ¬ Spells bytes m) × ((what : What) → ¬ Stops bytes what)
HasTranslationCause bytes poisoned (refusal.Invalid rule) = Breaks rule bytes
HasTranslationCause bytes poisoned (refusal.Unsupported what) = Stops bytes what
HasTranslationCause bytes poisoned refusal.TooLarge = 2 ^ 30 ≤ length bytes
HasTranslationCause bytes poisoned refusal.OutOfMemory = Unit {0}
HasTranslationCause bytes poisoned refusal.Poisoned = poisoned ≡ true

-- there is a translation, or memory ran out
abbrev pub SucceedsOrNoMemory : {A : Type 0} → Result A EnvironError → Type 0
SucceedsOrNoMemory (Ok answer) = Unit {0}
SucceedsOrNoMemory (Err e) = e ≡ refusal.OutOfMemory

-- the builder was poisoned, or there is no memory to find that out
abbrev pub IsPoisonedOrNoMemory : {A : Type 0} → Result A EnvironError → Type 0
IsPoisonedOrNoMemory (Err refusal.Poisoned) = Unit {0}
IsPoisonedOrNoMemory (Err refusal.OutOfMemory) = Unit {0}
IsPoisonedOrNoMemory _ = ⊥
