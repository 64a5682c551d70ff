-- A program: modules in order, each under a name. One registry has the types of all. The imports of
-- each are given by the exports of those before it (core specification, 4.7, instantiation).
use Rattle.std.specs.Prelude.{◌≡◌, ◌↔◌, ◌<◌, ◌≤◌, ◌+◌, ℕ, List, map, length, take, slice_get, All, Any, Some}
use Rattle.std.specs.List.{flat_map, sum_by}
use Rattle.type_spec.specs.Equality.{SameType}
use Rattle.module_types.specs.ListGroups.{list_groups}
use Rattle.module_types.specs.Listed.{list_of}
use Rattle.wasm_index.specs.Index.{number_of}
use Rattle.wasm_module.specs.Record.{record_of}
use Rattle.type_registry.specs.declared.key.ModuleKey.{ModuleKey}
use Rattle.type_registry.specs.Keys.{key_number}
use Rattle.type_registry.specs.Registry.{RegistryState, registry_of, index_at}
use Rattle.type_registry.specs.Standing.{Stands, TellsTypes}
use Rattle.import_match.specs.Definitions.{Definition, IsDefined}
use Rattle.import_match.specs.Linking.{exports_of, exported, wanted}
use Rattle.plan_link.specs.declared.program.LinkedModule.{LinkedModule}
use Rattle.plan_link.specs.declared.program.ProgramModule.{ProgramModule}
use Rattle.plan_link.specs.Answers.{import_answers, IsBelow}
use Rattle.plan_link.specs.Linked.{IsSomePlan}

-- some bytes have the plan of a module
abbrev pub IsPlannedModule : ProgramModule → Type 0
IsPlannedModule m = IsSomePlan m.plan.now

-- ---- what is found

-- a module of a program, and the key under which the registry holds its types
abbrev pub Member : Type 0
Member = ProgramModule × ModuleKey

abbrev pub IsHeldIn : RegistryState → Member → Type 0
IsHeldIn registry m = Stands (registry_of registry) (key_number m.1) m.0.plan.now.types

-- two types of two members have one index exactly where they are equal by group and position
abbrev pub TellApart : RegistryState → Member → Member → Type 0
TellApart registry a b =
    TellsTypes (registry_of registry) (key_number a.1) a.0.plan.now.types (key_number b.1) b.0.plan.now.types

-- what members export, in order, each under the name of its module
abbrev pub all_exported : RegistryState → List Member → List Definition
all_exported registry ms =
    flat_map (λ (m : Member). exported registry m.1 m.0.plan.now.translation.module m.0.name.now) ms

-- what the linker finds for a member, where the exports before its own give these definitions
pub record IsLinkedBy (registry : RegistryState) (before : List Definition) (m : Member) (found : LinkedModule) : Type 0 where
  -- the registry's index of each of its types, in order
  pub types : (i : ℕ) → slice_get (map number_of found.types.items) i ≡ index_at (registry_of registry) (key_number m.1) i
  -- the answer to each of its imports, by these definitions
  pub answers : found.answers.items ≡ import_answers before (wanted registry m.1 m.0.plan.now.translation.module)
  -- how many there are
  pub first_export : found.first_export ≡ length before

-- and for each member in order, by the exports of those before it
pub record AreLinked (registry : RegistryState) (members : List Member) (linked : List LinkedModule) : Type 0 where
  pub counted : length linked ≡ length members
  pub each : (k : ℕ) (m : Member) (found : LinkedModule) → slice_get members k ≡ Some m → slice_get linked k ≡ Some found
      → IsLinkedBy registry (all_exported registry (take k members)) m found

-- what the linker finds for each module of a program
pub record IsProgram (modules : List ProgramModule) (results : List LinkedModule) : Type 0 where
  -- one registry holds the types of all
  pub registry : RegistryState
  pub members : List Member
  pub in_order : map (λ (m : Member). m.0) members ≡ modules
  pub held : All (IsHeldIn registry) members
  pub tells : All (λ (a : Member). All (TellApart registry a) members) members
  -- with its indices, imports are answered by the exports of the modules before
  pub linked : AreLinked registry members results

-- two types of two modules have one index exactly where they are equal by group and position
abbrev pub ShareIndices : List ProgramModule → List LinkedModule → Type 0
ShareIndices modules results = (a b : ℕ) (m n : ProgramModule) (x y : LinkedModule) → slice_get modules a ≡ Some m → slice_get modules b ≡ Some n
    → slice_get results a ≡ Some x → slice_get results b ≡ Some y → (i j : ℕ) → i < length m.plan.now.types.types → j < length n.plan.now.types.types
    → (slice_get (map number_of x.types.items) i ≡ slice_get (map number_of y.types.items) j)
    ↔ SameType (list_groups (list_of m.plan.now.types)) (list_groups (list_of n.plan.now.types)) i j

-- each import that is given, is given an export before the module's own
abbrev pub GivesEarlier : LinkedModule → Type 0
GivesEarlier found = All (IsBelow found.first_export) found.answers.items

-- ---- why a program is refused

-- the exports of a module under its name, with its own types
abbrev pub named_exports : ProgramModule → List Definition
named_exports m = exports_of (record_of m.plan.now.translation.module) m.name.now

-- an export of the module at a position has the two names of an export of an earlier module
pub record RepeatsNames (modules : List ProgramModule) (k : ℕ) : Type 0 where
  pub repeating : ProgramModule
  pub at : slice_get modules k ≡ Some repeating
  pub twice : Any (λ (d : Definition). IsDefined (flat_map named_exports (take k modules)) d.0) (named_exports repeating)

-- and this is the first such module
pub record IsDuplicate (modules : List ProgramModule) (k : ℕ) : Type 0 where
  pub repeats : RepeatsNames modules k
  pub first : (j : ℕ) → j < k → RepeatsNames modules j → ⊥

-- the most types that a registry may hold
abbrev pub capacity : ℕ
capacity = 4294967294

abbrev pub count_types : List ProgramModule → ℕ
count_types ms = sum_by (λ (m : ProgramModule). length m.plan.now.types.types) ms

-- the types of the modules up to this position pass the capacity, and those before it do not
pub record IsCrowded (modules : List ProgramModule) (k : ℕ) : Type 0 where
  pub fits : count_types (take k modules) ≤ capacity
  pub passes : capacity < count_types (take (k + 1) modules)
