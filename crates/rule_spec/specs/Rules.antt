-- The listed rules, each a statement over the lists of a module (core specification, 3.5).
use Rattle.std.specs.Prelude.{◌≡◌, ◌≢◌, ℕ, ◌+◌, ◌<◌, ◌≤◌, List, length, sum_by, All, AllPairs, false, IsSome}
use Rattle.wasm_spec.specs.declared.types.ValType.{ValType}
use Rattle.rule_spec.specs.declared.rules.Rule.{Rule}
use Rattle.rule_spec.specs.declared.rules.Rule.TheVariants as rule
use Rattle.wasm_spec.specs.Module.{Module, Export, TableDef, Body, Segment}
use Rattle.rule_spec.specs.Lists.{Lists, lists_of_module}
use Rattle.rule_spec.specs.TypeRules.{IsDeclaredWell, NamesFunctionType}
use Rattle.rule_spec.specs.Limits.{HasLimits, IsOrdered}
use Rattle.rule_spec.specs.Indices.{IsInSpace, CanStart, NamesMemory, IsElementInRange}
use Rattle.rule_spec.specs.References.{AllReferIn}
use Rattle.rule_spec.specs.Expressions.{AreExpressionsTyped}

-- functions and tags have declared function types (3.5, functions and tags)
pub record TypesAreNamed (l : Lists) : Type 0 where
  pub functions : All (NamesFunctionType l) l.functions
  pub tags : All (NamesFunctionType l) l.tags

-- how many locals a body has (5.5, code section)
abbrev pub locals : Body → ℕ
locals b = sum_by (λ (run : ℕ × ValType). run.0) b.locals

-- as many bodies as functions, as many data segments as declared, and locals of 32 bits (5.5, code
-- section and modules)
pub record CountsAgree (l : Lists) : Type 0 where
  pub bodies : length l.functions ≡ l.imported_functions + length l.bodies
  pub data_segments : All (λ count. count ≡ length l.segments) l.data_counts
  pub locals : All (λ b. locals b ≤ 4294967295) l.bodies

-- limits of tables and memories (3.2, limits)
pub record HaveLimits (l : Lists) : Type 0 where
  pub tables : All IsOrdered l.table_types
  pub memories : All HasLimits l.memories

-- a table whose cells cannot be null says what they hold at first (3.5, tables)
abbrev pub IsInitialised : TableDef → Type 0
IsInitialised t = (t.type.element_type.nullable ≡ false) → IsSome t.init

-- no two exports have one name (3.5, modules)
abbrev pub AreDistinct : List Export → Type 0
AreDistinct es = AllPairs (λ (a b : Export). a.name ≢ b.name) es

-- exports name entries that exist, and no two have the same name (3.5, exports)
pub record AreExported (l : Lists) : Type 0 where
  pub in_space : All (IsInSpace l) l.exports
  pub distinct : AreDistinct l.exports

-- what segments name is in range (3.5, element and data segments)
pub record AreInRange (l : Lists) : Type 0 where
  pub elements : All (IsElementInRange l) l.elements
  pub segments : All (λ (s : Segment). NamesMemory l s.kind) l.segments

-- a rule is kept
abbrev pub Satisfies : Rule → Lists → Type 0
Satisfies rule.L1 l = All (IsDeclaredWell l) l.types
Satisfies rule.L2 l = TypesAreNamed l
Satisfies rule.L3 l = CountsAgree l
Satisfies rule.L4 l = HaveLimits l
Satisfies rule.L5 l = All IsInitialised l.tables
Satisfies rule.L6 l = AreExpressionsTyped l
Satisfies rule.L7 l = AreExported l
Satisfies rule.L8 l = All (CanStart l) l.starts
Satisfies rule.L9 l = AreInRange l
Satisfies rule.L10 l = AllReferIn (length l.types) l

-- the module keeps all listed rules
abbrev pub Keeps : Module → Type 0
Keeps m = (r : Rule) → Satisfies r (lists_of_module m)

-- the number of a rule: rules are checked in the order of their numbers
abbrev pub number_of : Rule → ℕ
number_of rule.L1 = 1
number_of rule.L2 = 2
number_of rule.L3 = 3
number_of rule.L4 = 4
number_of rule.L5 = 5
number_of rule.L6 = 6
number_of rule.L7 = 7
number_of rule.L8 = 8
number_of rule.L9 = 9
number_of rule.L10 = 10

-- the module keeps each rule of a lower number
abbrev pub KeepsBefore : Rule → Module → Type 0
KeepsBefore r m = (lower : Rule) → number_of lower < number_of r → Satisfies lower (lists_of_module m)
