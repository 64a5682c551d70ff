-- Each initialiser, offset and item of a module has a value of its class: no phase falls back on
-- null or on 0 (core specification, 4.2, values).
use Rattle.std.specs.Prelude.{◌≡◌, ℕ, ◌+◌, List, length, take, All, IfSome, IsSomeAnd, Some, slice_get, unwrap_or}
use Rattle.wasm_spec.specs.TypeData.{value_of}
use Rattle.wasm_spec.specs.Module.{Expression, TableDef, GlobalDef, ElementKind, ActiveElement, ElementItems, Functions, Expressions, Element, DataKind, Passive, Active, Segment}
use Rattle.rule_spec.specs.declared.classes.Class.{Class}
use Rattle.rule_spec.specs.declared.classes.Class.TheVariants as class
use Rattle.rule_spec.specs.Expressions.{address_class}
use Rattle.rule_spec.specs.Lists.{Lists}
use Rattle.rule_spec.specs.Typing.{class_of}
use Rattle.replay_spec.specs.Classes.{IsOfClass, HaveClasses, field_count}
use Rattle.replay_spec.specs.Globals.{initialisers, values_after}
use Rattle.replay_spec.specs.Values.{Value, eval}

-- there is a value for each imported global, of its class
pub record AreImported (l : Lists) (imported : List Value) : Type 0 where
  pub count : length imported ≡ l.imported_globals
  pub classes : HaveClasses imported (take l.imported_globals l.global_types)

-- the values of all globals, over those of the imported ones
abbrev pub all_globals : Lists → List Value → List Value
all_globals l imported = values_after (field_count l) imported (initialisers l)

module _ (l : Lists) (globals : List Value) where
  -- an expression has a value of a class, over the values of the globals
  abbrev pub HasValue : Expression → Class → Type 0
  HasValue e c = IsSomeAnd (eval globals (field_count l) e) (λ v. IsOfClass v c)

  -- the value of an initialiser is that of its global, among those that are defined
  abbrev pub GivesGlobal : ℕ → GlobalDef → Type 0
  GivesGlobal g d = IsSomeAnd (eval globals (field_count l) d.init)
      (λ v. IsOfClass v (class_of (value_of d.type.content_type)) × (slice_get globals (l.imported_globals + g) ≡ Some v))

  -- an offset has a value of the class of the table's indices, and there is such a table
  abbrev pub HasTablePlace : ElementKind → Type 0
  HasTablePlace (ActiveElement table offset) = IsSomeAnd (slice_get l.table_types (unwrap_or table 0)) (λ t. HasValue offset (address_class t.table64))
  HasTablePlace _ = Unit {0}

  -- each item that is an expression has a reference as its value
  abbrev pub HaveReferences : ElementItems → Type 0
  HaveReferences (Functions indices) = Unit {0}
  HaveReferences (Expressions type items) = All (λ e. HasValue e class.Ref) items

  -- an offset has a value of the class of the memory's addresses, and there is such a memory
  abbrev pub HasMemoryPlace : DataKind → Type 0
  HasMemoryPlace Passive = Unit {0}
  HasMemoryPlace (Active memory offset) = IsSomeAnd (slice_get l.memories memory) (λ t. HasValue offset (address_class t.memory64))

  -- over these values of the globals each initialiser, offset and item has a value of its class
  pub record HaveValues : Type 0 where
    pub initialisers : (g : ℕ) (d : GlobalDef) → slice_get l.globals g ≡ Some d → GivesGlobal g d
    pub tables : All (λ (t : TableDef). IfSome t.init (λ e. HasValue e class.Ref)) l.tables
    pub offsets : All (λ (e : Element). HasTablePlace e.kind) l.elements
    pub items : All (λ (e : Element). HaveReferences e.items) l.elements
    pub segments : All (λ (s : Segment). HasMemoryPlace s.kind) l.segments
