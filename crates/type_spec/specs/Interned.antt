-- The interned list of a module: each group of types (core specification, 2.3, recursive types)
-- once with its trampolines, then the exception types and the startup type.
use Rattle.std.specs.Prelude.{◌≡◌, ℕ, zero, suc, ◌+◌, ◌-◌, get_or, Bool, true, false, List, [], ◌∷◌, ◌++◌, length, map, replicate, set, Option, Some, None, if◌then◌else◌}
use Rattle.std.specs.Bool.{Decides}
use Rattle.std.specs.List.{fold}
use Rattle.wasm_spec.specs.TypeData.{Heap, Concrete, Abstract, ValueType, Ref, Val, Field, Function, Composite, Func, Array, Struct, Cont, Exn, SubType, Group, map_function, map_group}
use Rattle.type_spec.specs.Shapes.{erased}
use Rattle.type_spec.specs.Tops.{top}
use Rattle.type_spec.specs.Names.{NameKind, FuncName, ArrayName, StructName, ContName, ExnName, Named}
use Rattle.type_spec.specs.Same.{same_function}
use Rattle.type_spec.specs.Tests.{function-decides}
use Rattle.type_spec.specs.Equality.{Home, home}
use Rattle.entity_map.specs.Firsts.{firsts}
use Rattle.type_spec.specs.TakenGroups.{places, equal_groups, taken_groups}

abbrev pub Interned : Type 0
Interned = SubType (Named ℕ) ℕ

-- a function type as data of an interned list
abbrev pub Called : Type 0
Called = Function (Named ℕ)

-- ---- what a trampoline passes

-- the type that a trampoline passes for another: each reference nullable with its top
abbrev pub passed : ValueType (Named ℕ) → ValueType (Named ℕ)
passed (Ref r) = Ref (record { nullable = true; heap = Abstract (top r.heap) })
passed v = v

abbrev pub mapped : Called → Called
mapped f = record { params = map passed f.params; results = map passed f.results }

-- whether two function types are equal but for what their references name: what it says determines
-- the answer
pub decide_mapped : (f g : Called) → (equal : Bool) × Decides equal (map_function erased f ≡ map_function erased g)
decide_mapped f g = (same_function (map_function erased f) (map_function erased g), function-decides (map_function erased f) (map_function erased g))

-- a mapped type names no declared type: it is its frame
abbrev pub same_mapped : Called → Called → Bool
same_mapped f g = (decide_mapped f g).0

-- ---- what is built

-- the indices of a group: from one up to another
pub record GroupSpan : Type 0 where
  pub start : ℕ
  pub end : ℕ

-- the types, the indices of each group, the trampoline of each function that has one, and the
-- trampoline that is known of each mapped type
pub record Built : Type 0 where
  pub types : List Interned
  pub groups : List GroupSpan
  pub trampolines : List (Option ℕ)
  pub known_trampolines : Called → Option ℕ

abbrev pub nowhere : Called → Option ℕ
nowhere f = None

abbrev pub empty : Built
empty = record { types = []; groups = []; trampolines = []; known_trampolines = nowhere }

-- a final type without supertype
abbrev pub plain : Composite (Named ℕ) ℕ → Interned
plain c = record { is_final = true; supertype = None; composite = record { inner = c; shared = false } }

-- some types that come next
abbrev pub next_span : Built → ℕ → GroupSpan
next_span b count = record { start = length b.types; end = length b.types + count }

-- a type in a group of its own
abbrev pub alone : Built → Interned → Option ℕ → Built
alone b t trampoline = record b { types = b.types ++ t ∷ []; groups = b.groups ++ next_span b 1 ∷ []; trampolines = b.trampolines ++ trampoline ∷ [] }

-- ---- trampolines

abbrev pub with_trampoline : Built → ℕ → ℕ → Built
with_trampoline b i k = record b { trampolines = set b.trampolines i (Some k) }

-- the trampoline of a mapped type is known from now on
abbrev pub now_known : (Called → Option ℕ) → Called → ℕ → Called → Option ℕ
now_known known f k g = if same_mapped f g then Some k else known g

abbrev pub knows : Built → Called → ℕ → Built
knows b f k = record b { known_trampolines = now_known b.known_trampolines f k }

-- the trampoline of the function at an index: it is known, or the function itself, or a new type
-- that is appended
abbrev pub assign_at : Built → ℕ → Called → Option ℕ → Built
assign_at b i f (Some k) = with_trampoline b i k
assign_at b i f None =
    if same_mapped (mapped f) f then with_trampoline (knows b (mapped f) i) i i
    else
    (let k = length b.types in
    alone (with_trampoline (knows b (mapped f) k) i k) (plain (Func (mapped f))) (Some k))

abbrev pub assign_trampoline : Built → ℕ → Composite (Named ℕ) ℕ → Built
assign_trampoline b i (Func f) = assign_at b i f (b.known_trampolines (mapped f))
assign_trampoline b i _ = b

-- the members of a group in order, from an index on
abbrev pub assign_trampolines : Built → ℕ → List Interned → Built
assign_trampolines b i [] = b
assign_trampolines b i (t ∷ ts) = assign_trampolines (assign_trampoline b i t.composite.inner) (suc i) ts

-- ---- groups

-- a group after the others, whose functions have no trampolines yet
abbrev pub opened : Built → List Interned → Built
opened b ts = record b {
  types = b.types ++ ts;
  groups = b.groups ++ next_span b (length ts) ∷ [];
  trampolines = b.trampolines ++ replicate (length ts) None;
}

-- a group after the others, and then the trampolines that are missing
abbrev pub with_group : Built → List Interned → Built
with_group b ts = assign_trampolines (opened b ts) (length b.types) ts

abbrev pub kind_of_type : {H R : Type 0} → Composite H R → NameKind
kind_of_type (Func f) = FuncName
kind_of_type (Array f) = ArrayName
kind_of_type (Struct fs) = StructName
kind_of_type (Cont i) = ContName
kind_of_type (Exn t) = ExnName

-- the kind of the type at a position of the joined list
abbrev pub kind_at : List (Group ℕ ℕ) → ℕ → NameKind
kind_at [] i = FuncName
kind_at ([] ∷ gs) i = kind_at gs i
kind_at ((t ∷ ts) ∷ gs) zero = kind_of_type t.composite.inner
kind_at ((t ∷ ts) ∷ gs) (suc i) = kind_at (ts ∷ gs) i

-- what was built, and the interned index of each declared type
pub record Taken : Type 0 where
  pub built : Built
  pub declared : List ℕ

-- while groups are interned: what was built, and the interned index of the type at each position
pub record Taking : Type 0 where
  pub built : Built
  pub number : ℕ → ℕ

abbrev pub none_taken : Taking
none_taken = record { built = empty; number = λ i. 0 }

module _ (all : List (Group ℕ ℕ)) where
  -- the types of a group, and of each that is equal to it, get consecutive indices
  abbrev pub numbered : (ℕ → ℕ) → Home → ℕ → ℕ → ℕ
  numbered number g first i = if equal_groups all g (home all i) then first + (i - (home all i).start) else number i

  -- each reference becomes the interned index of what it names
  abbrev pub interned_group : (ℕ → ℕ) → Group ℕ ℕ → List Interned
  interned_group number g = map_group (λ i. record { kind = kind_at all i; index = number i }) number g

  -- a group comes next
  abbrev pub take_group : Taking → Home → Taking
  take_group t g =
      let number = numbered t.number g (length t.built.types) in
      record { built = with_group t.built (interned_group number g.members); number = number }

-- a module's groups
abbrev pub taken : List (Group ℕ ℕ) → Taken
taken groups =
    let t = fold (take_group groups) none_taken (taken_groups groups) in
    record { built = t.built; declared = map t.number (places groups) }

-- ---- exception types, and the startup type

-- one field for a parameter
abbrev pub field_for : ValueType (Named ℕ) → Field (Named ℕ)
field_for v = record { element = Val v; mutable = false }

abbrev pub exception_for : ℕ → Composite (Named ℕ) ℕ → Composite (Named ℕ) ℕ
exception_for i (Func f) = Exn (record { function = i; fields = map field_for f.params })
exception_for i c = Exn (record { function = i; fields = [] })

abbrev pub composite_at : List Interned → ℕ → Composite (Named ℕ) ℕ
composite_at [] i = Struct []
composite_at (t ∷ ts) zero = t.composite.inner
composite_at (t ∷ ts) (suc i) = composite_at ts i

-- the exception type of a function type
abbrev pub with_exception : Built → ℕ → Built
with_exception b i = alone b (plain (exception_for i (composite_at b.types i))) None

-- one for each function type of the tags, which are interned indices, in order
abbrev pub with_exceptions : Built → List ℕ → Built
with_exceptions b functions = fold with_exception b (firsts functions)

-- a function type without parameters and results
abbrev pub startup_type : Interned
startup_type = plain (Func (record { params = []; results = [] }))

abbrev pub with_startup : Built → Bool → Built
with_startup b false = b
with_startup b true = alone b startup_type None

-- a module's groups, the declared function types of its tags in order, and whether it has a startup type
abbrev pub interned : List (Group ℕ ℕ) → List ℕ → Bool → Built
interned groups tags startup =
    let t = taken groups in
    with_startup (with_exceptions t.built (map (λ i. get_or t.declared i 0) tags)) startup
