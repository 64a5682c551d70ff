-- The functions of a translated module by the causes for references to them.
use Rattle.std.specs.Prelude.{ℕ, ◌==◌, Bool, List, slice_get, Option}
use Rattle.std.specs.List.{position_or_len}
use Rattle.std.specs.Option.{option_map}
use Rattle.rule_spec.specs.Lists.{Lists}
use Rattle.wasm_index.specs.Index.{number_of}
use Rattle.wasm_module.specs.declared.function.FunctionType.{FunctionType}
use Rattle.module_sections.specs.Escapes.{references}

-- the position of the first cause for a reference to a function
abbrev pub first_cause : Bool → Lists → ℕ → ℕ
first_cause debugged l function = position_or_len (λ k. k == function) (references debugged l)

-- the number that a function has among those to which references are made
abbrev pub reference_number : List FunctionType → ℕ → Option ℕ
reference_number functions function = option_map (λ (f : FunctionType). number_of f.func_ref) (slice_get functions function)
