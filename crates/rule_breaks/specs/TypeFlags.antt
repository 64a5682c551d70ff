-- Declared types, each with the list of which types are function types.
use Rattle.std.specs.Prelude.{◌≡◌, Bool, true, false, List, Some, map, slice_get}
use Rattle.std.specs.List.{flat_map}
use Rattle.wasm_spec.specs.declared.types.UnpackedIndex.{UnpackedIndex}
use Rattle.wasm_spec.specs.declared.types.UnpackedIndex.TheVariants as named
use Rattle.wasm_spec.specs.TypeData.{Composite, Func, Cont, SubType, Group}
use Rattle.rule_spec.specs.Lists.{Declared}
use Rattle.form_types.specs.Below.{NamesBelow}

abbrev pub is_function : Composite UnpackedIndex UnpackedIndex → Bool
is_function (Func type) = true
is_function _ = false

-- of each member of some groups, whether it is a function type
abbrev pub function_flags : List (Group UnpackedIndex UnpackedIndex) → List Bool
function_flags groups = flat_map (map (λ (t : SubType UnpackedIndex UnpackedIndex). is_function t.composite.inner)) groups

-- the flag at the index says that there is a function type
abbrev pub IsFlagged : List Bool → UnpackedIndex → Type 0
IsFlagged flags (named.Module index) = slice_get flags index ≡ Some true
IsFlagged flags _ = ⊥

-- a continuation names a function type
abbrev pub ContinuesFlagged : List Bool → Composite UnpackedIndex UnpackedIndex → Type 0
ContinuesFlagged flags (Cont function) = IsFlagged flags function
ContinuesFlagged flags _ = Unit {0}

-- the type keeps the first rule, where the flags are those of all declared types
pub record IsWell (flags : List Bool) (d : Declared) : Type 0 where
  pub names : NamesBelow d
  pub continuation : ContinuesFlagged flags d.type.composite.inner
