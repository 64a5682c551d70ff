-- What a caller sees of a builder, and how each growing call changes it.
use Rattle.std.specs.Prelude.{ℕ, Bool, true, false, nat_eq, List, length, Option, Some, None, if◌then◌else◌}
use Rattle.std.specs.Option.{option_map}
use Rattle.std.specs.Map.{lookup}
use Rattle.wasm_spec.specs.TypeData.{Composite, Func}
use Rattle.type_spec.specs.Names.{Named}
use Rattle.type_spec.specs.Interned.{Interned, Built, empty, with_group, with_exception, with_startup}
use Rattle.wasm_index.specs.Index.{number_of}
use Rattle.wasm_types.specs.declared.func.WasmFuncType.{WasmFuncType}
use Rattle.wasm_types.specs.contracts.equal.WasmFuncTypePartialEq.TheImpl as func
use Rattle.module_types.specs.Views.{TypeIndex}
use Rattle.module_types.specs.TypeList.{TypeList}
use Rattle.module_types.specs.Held.{built_of}
use Rattle.module_types.specs.IndicesByKey.{noted_at}

-- what a builder keeps: the validator's number, its list, and the recorded mapped types with their
-- indices, in some order; and two lists: at the index of an id the group that was interned under
-- it, and at the index of a function type its exception type
pub record BuilderState : Type 0 where
  pub validator : ℕ
  pub list : TypeList
  pub trampolines : List (WasmFuncType × TypeIndex)
  pub ids : List (Option ℕ)
  pub exceptions : List (Option ℕ)
  pub startup : Option TypeIndex
  pub is_poisoned : Bool

-- what was built; the group that was interned under each id, the exception type of each function
-- type, and the startup type; and whether a growing call returned an error
pub record Builder : Type 0 where
  pub validator : ℕ
  pub built : Built
  pub ids : ℕ → Option ℕ
  pub exceptions : ℕ → Option ℕ
  pub startup : Option ℕ
  pub is_poisoned : Bool

-- the view of a builder
abbrev pub builder_view : BuilderState → Builder
builder_view k = record {
  validator = k.validator;
  built = built_of k.list (λ f. lookup (func.ghosts.eq f) k.trampolines);
  ids = noted_at k.ids;
  exceptions = noted_at k.exceptions;
  startup = option_map number_of k.startup;
  is_poisoned = k.is_poisoned;
}

abbrev pub nothing_yet : ℕ → Option ℕ
nothing_yet n = None

abbrev pub new_builder : ℕ → Builder
new_builder validator = record {
  validator = validator;
  built = empty;
  ids = nothing_yet;
  exceptions = nothing_yet;
  startup = None;
  is_poisoned = false;
}

-- one more index is recorded
abbrev pub noted : (ℕ → Option ℕ) → ℕ → ℕ → ℕ → Option ℕ
noted at n k m = if nat_eq n m then Some k else at m

-- what is held, or else what comes next
abbrev pub or_next : Option ℕ → ℕ → ℕ
or_next (Some k) next = k
or_next None next = next

-- ---- a group under an id

abbrev pub group_index : Builder → ℕ → ℕ
group_index b id = or_next (b.ids id) (length b.built.groups)

abbrev pub interns_by : Builder → ℕ → List Interned → Option ℕ → Builder
interns_by b id ts (Some k) = b
interns_by b id ts None = record b { built = with_group b.built ts; ids = noted b.ids id (length b.built.groups) }

-- where the id is held nothing changes, and otherwise the group is appended with its missing
-- trampolines
abbrev pub interns : Builder → ℕ → List Interned → Builder
interns b id ts = interns_by b id ts (b.ids id)

-- ---- the exception type of a function type

abbrev pub exception_index : Builder → ℕ → ℕ
exception_index b i = or_next (b.exceptions i) (length b.built.types)

abbrev pub excepts_by : Builder → ℕ → Option ℕ → Builder
excepts_by b i (Some k) = b
excepts_by b i None = record b { built = with_exception b.built i; exceptions = noted b.exceptions i (length b.built.types) }

abbrev pub excepts : Builder → ℕ → Builder
excepts b i = excepts_by b i (b.exceptions i)

abbrev pub is_function : Composite (Named ℕ) ℕ → Bool
is_function (Func f) = true
is_function _ = false

-- ---- the startup type

abbrev pub startup_index : Builder → ℕ
startup_index b = or_next b.startup (length b.built.types)

abbrev pub starts_by : Builder → Option ℕ → Builder
starts_by b (Some k) = b
starts_by b None = record b { built = with_startup b.built true; startup = Some (length b.built.types) }

abbrev pub starts : Builder → Builder
starts b = starts_by b b.startup
