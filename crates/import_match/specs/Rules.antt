-- When a definition matches an import, rule by rule (core specification, 3.3, external types).
-- Types are compared by equality.
use Rattle.std.specs.Prelude.{ℕ, Bool, true, false, not, nat_eq, nat_le, List, [], ◌∷◌, Option, Some, None, IsSome, All, find}
use Rattle.std.specs.Bool.{beq}
use Rattle.std.specs.Option.{option_map}
use Rattle.type_spec.specs.Names.{index_of as index_in}
use Rattle.wasm_types.specs.declared.entity.EntityType.{EntityType}
use Rattle.wasm_types.specs.declared.entity.EntityType.TheVariants as entity
use Rattle.wasm_types.specs.declared.index.EngineOrModuleTypeIndex.{EngineOrModuleTypeIndex}
use Rattle.wasm_types.specs.declared.table.Table.{Table}
use Rattle.wasm_types.specs.declared.memory.Memory.{Memory}
use Rattle.wasm_types.specs.declared.global.Global.{Global}
use Rattle.wasm_types.specs.declared.tag.Tag.{Tag}
use Rattle.wasm_types.specs.contracts.index.EngineOrModuleTypeIndexPartialEq.TheImpl as indices
use Rattle.wasm_types.specs.contracts.limits.IndexTypePartialEq.TheImpl as index_types
use Rattle.wasm_types.specs.contracts.value.WasmRefTypePartialEq.TheImpl as references
use Rattle.wasm_types.specs.contracts.value.WasmValTypePartialEq.TheImpl as values
use Rattle.wasm_types.specs.EntityData.{entity_edges}
use Rattle.wasm_types.specs.EntityViews.{entity_of}
use Rattle.wasm_types.specs.Views.{engine_index}
use Rattle.import_match.specs.declared.error.Mismatch.{Mismatch}
use Rattle.import_match.specs.declared.error.Mismatch.TheVariants as rule

-- ---- the types that can be compared

-- the types that the type of an entity names
abbrev pub types_in : EntityType → List EngineOrModuleTypeIndex
types_in t = entity_edges index_in (entity_of t)

-- all of them are the engine's
abbrev pub HasEngineTypes : EntityType → Type 0
HasEngineTypes t = All (λ e. IsSome (engine_index e)) (types_in t)

-- ---- the rules

-- whether a rule holds, and which it is
abbrev pub Rule : Type 0
Rule = Bool × Mismatch

-- whether a greatest size is within the required one: where none is required, any is; where one is
-- required, an absent one is not
abbrev pub is_within : Option ℕ → Option ℕ → Bool
is_within have None = true
is_within None (Some want) = false
is_within (Some have) (Some want) = nat_le have want

abbrev pub function_rules : EngineOrModuleTypeIndex → EngineOrModuleTypeIndex → List Rule
function_rules have want =
    (indices.ghosts.eq have want, rule.FuncType) ∷ []

abbrev pub table_rules : Table → Table → List Rule
table_rules have want =
    (references.ghosts.eq have.ref_type want.ref_type, rule.TableElement)
    ∷ (index_types.ghosts.eq have.idx_type want.idx_type, rule.TableIndexType)
    ∷ (nat_le want.limits.min have.limits.min, rule.TableMin)
    ∷ (is_within have.limits.max want.limits.max, rule.TableMax)
    ∷ []

abbrev pub memory_rules : Memory → Memory → List Rule
memory_rules have want =
    (index_types.ghosts.eq have.idx_type want.idx_type, rule.MemoryIndexType)
    ∷ (beq have.shared want.shared, rule.MemoryShared)
    ∷ (nat_eq have.page_size_log2 want.page_size_log2, rule.MemoryPage)
    ∷ (nat_le want.limits.min have.limits.min, rule.MemoryMin)
    ∷ (is_within have.limits.max want.limits.max, rule.MemoryMax)
    ∷ []

abbrev pub global_rules : Global → Global → List Rule
global_rules have want =
    (beq have.mutability want.mutability, rule.GlobalMutability)
    ∷ (values.ghosts.eq have.wasm_ty want.wasm_ty, rule.GlobalType)
    ∷ []

abbrev pub tag_rules : Tag → Tag → List Rule
tag_rules have want =
    (indices.ghosts.eq have.signature want.signature, rule.TagType) ∷ []

-- the table: the rules for what is defined and what is imported, in order
abbrev pub rules_of : EntityType → EntityType → List Rule
rules_of (entity.Function have) (entity.Function want) = function_rules have want
rules_of (entity.Table have) (entity.Table want) = table_rules have want
rules_of (entity.Memory have) (entity.Memory want) = memory_rules have want
rules_of (entity.Global have) (entity.Global want) = global_rules have want
rules_of (entity.Tag have) (entity.Tag want) = tag_rules have want
rules_of have want = (false, rule.Kind) ∷ []

-- the first of some rules that does not hold
abbrev pub first_broken : List Rule → Option Mismatch
first_broken rules = option_map (λ (r : Rule). r.1) (find (λ (r : Rule). not r.0) rules)

-- the first rule that a definition breaks for an import
abbrev pub mismatch : EntityType → EntityType → Option Mismatch
mismatch have want = first_broken (rules_of have want)
