-- What the references of a group become that names types by ids: inside the group the next index
-- plus the position in it, outside the index of an interned type.
use Rattle.std.specs.Prelude.{◌≡◌, ◌<◌, ◌⊎◌, ℕ, ◌+◌, ◌-◌, get_or, List, [], All, length, map, take, drop, slice_get, Option, Some, None, IsSome}
use Rattle.wasm_spec.specs.declared.types.UnpackedIndex.{UnpackedIndex}
use Rattle.wasm_spec.specs.declared.types.UnpackedIndex.TheVariants as index
use Rattle.wasm_spec.specs.TypeData.{SubType, map_group, group_edges}
use Rattle.type_spec.specs.Names.{NameKind, FuncName, Named, named}
use Rattle.type_spec.specs.Interned.{Interned, GroupSpan, kind_of_type}
use Rattle.form_types.specs.Types.{NamedGroup, TypesData, types_by_id, group_numbers}
use Rattle.form_types.specs.Numbered.{first_id}
use Rattle.wasm_types.specs.ValueViews.{Name}
use Rattle.module_types.specs.Views.{index_at}
use Rattle.module_types.specs.Builder.{Builder}

abbrev pub id_number : UnpackedIndex → ℕ
id_number (index.Id i) = i.0
id_number _ = 0

-- the kind of a type, if there is one
abbrev pub kind_in : Option (SubType UnpackedIndex UnpackedIndex) → NameKind
kind_in (Some t) = kind_of_type t.composite.inner
kind_in None = FuncName

abbrev pub no_span : GroupSpan
no_span = record { start = 0; end = 0 }

module _ (t : TypesData) where
  -- the group that has the type of an id
  abbrev pub group_of_id : ℕ → ℕ
  group_of_id n = get_or (group_numbers 0 t.groups) n 0

  abbrev pub members_of : ℕ → NamedGroup
  members_of k = get_or t.groups k []

-- the kinds of types, in order
module _ {H R : Type 0} where
  abbrev pub kinds_of : List (SubType H R) → List NameKind
  kinds_of ts = map (λ (t : SubType H R). kind_of_type t.composite.inner) ts

-- a group is interned under its id with all its members
pub record StandsInterned (t : TypesData) (spans : List GroupSpan) (k j : ℕ) : Type 0 where
  pub within : j < length spans
  pub whole : (get_or spans j no_span).end ≡ (get_or spans j no_span).start + length (members_of t k)

-- it is interned so, and its members are of the kinds of those in the list of types
pub record HoldsGroup (t : TypesData) (types : List Interned) (spans : List GroupSpan) (k j : ℕ) : Type 0 where
  pub stands : StandsInterned t spans k j
  pub kinds : kinds_of (take (length (members_of t k)) (drop (get_or spans j no_span).start types)) ≡ kinds_of (members_of t k)

-- a list of types by ids; the next index, the indices of each interned group, and the group that
-- was interned under each id of a group
module _ (t : TypesData) (next : ℕ) (spans : List GroupSpan) (ids : ℕ → Option ℕ) where
  -- where the first member of a group is: where it was interned, or else at the next index
  abbrev pub start_by : Option ℕ → ℕ
  start_by (Some j) = (get_or spans j no_span).start
  start_by None = next

  -- the index of the type of an id: that of the first member of its group, plus its position in the
  -- group
  abbrev pub index_by_id : ℕ → ℕ
  index_by_id n = start_by (ids (group_of_id t n)) + (n - first_id t.groups (group_of_id t n))

  -- what the type of an id is named by
  abbrev pub name_by_id : ℕ → Named ℕ
  name_by_id n = record { kind = kind_in (slice_get (types_by_id t.groups) n); index = index_by_id n }

  abbrev pub look_by_id : UnpackedIndex → Name
  look_by_id i = named index_at (name_by_id (id_number i))

  -- a group by indices
  abbrev pub members_by_index : ℕ → List Interned
  members_by_index k = map_group (λ i. name_by_id (id_number i)) (λ i. index_by_id (id_number i)) (members_of t k)

  -- the type of an id is that of an interned group, or there is capacity for its group
  pub record HasIndex (n : ℕ) : Type 0 where
    pub within : n < length (types_by_id t.groups)
    pub stands : (j : ℕ) → ids (group_of_id t n) ≡ Some j → StandsInterned t spans (group_of_id t n) j
    pub room : ids (group_of_id t n) ≡ None → next + length (members_of t (group_of_id t n)) < 4294967295

  abbrev pub KnowsId : UnpackedIndex → Type 0
  KnowsId (index.Id i) = HasIndex i.0
  KnowsId _ = ⊥

-- ---- at a builder

module _ (t : TypesData) (b : Builder) where
  -- a group by interned indices
  abbrev pub interned_members : ℕ → List Interned
  interned_members k = members_by_index t (length b.built.types) b.built.groups b.ids k

  -- the interned index of the type of an id
  abbrev pub interned_index : ℕ → ℕ
  interned_index n = index_by_id t (length b.built.types) b.built.groups b.ids n

  -- each group that the builder holds is interned under its id with as many members as in the list
  -- of types
  abbrev pub StandGroups : Type 0
  StandGroups = (k j : ℕ) → b.ids k ≡ Some j → StandsInterned t b.built.groups k j

  -- each id of a group that the builder holds names in the list of types the group that was
  -- interned under it
  abbrev pub HoldsGroups : Type 0
  HoldsGroups = (k j : ℕ) → b.ids k ≡ Some j → HoldsGroup t b.built.types b.built.groups k j

  -- the groups that a group names outside itself are interned
  abbrev pub NamesInterned : ℕ → Type 0
  NamesInterned k =
      All (λ i. (group_of_id t (id_number i) ≡ k) ⊎ IsSome (b.ids (group_of_id t (id_number i))))
      (group_edges (λ r. r) (members_of t k))
