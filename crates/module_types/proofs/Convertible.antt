-- A group of a list of types can be converted, and what it becomes.
use Rattle.std.proofs.Common.{◌≡◌, ◌≤◌, ◌<◌, ℕ, zero, suc, ◌+◌, List, [], ◌∷◌, ◌++◌, All, length, get_or, map, Option, Some, None, sym, ap, subst, ◌∙◌, inl, inr, arith, take}
use Rattle.std.specs.Prelude.{IsSome, ◌⊎◌}
use Rattle.std.proofs.lemmas.List.{length-map, length-append}
use Rattle.std.proofs.lemmas.List.Elements.{All-tail, All-nil, All-weaker}
use Rattle.wasm_spec.specs.declared.types.UnpackedIndex.{UnpackedIndex}
use Rattle.wasm_spec.specs.declared.types.UnpackedIndex.TheVariants as index
use Rattle.wasm_spec.specs.TypeData.{SubType, map_sub_type, sub_type_edges, group_edges}
use Rattle.wasm_spec.specs.Sizes.{HasShortLists}
use Rattle.type_spec.specs.TypeShapes.{sub_type_shape}
use Rattle.type_spec.specs.Names.{named}
use Rattle.type_spec.specs.Interned.{GroupSpan}
use Rattle.form_reader.specs.declared.types.SubType.{SubType as Read}
use Rattle.form_reader.specs.Views as form
use Rattle.form_types.specs.Types.{NamedGroup, TypesData, types_by_id, IsIdBelow, NameEarlier, ContinuesFunction, TypesAreSound}
use Rattle.form_types.specs.Numbered.{first_id}
use Rattle.wasm_types.specs.declared.sub.WasmSubType.{WasmSubType}
use Rattle.wasm_types.specs.TypeViews.{sub_type_of}
use Rattle.wasm_convert.specs.Conversion.{index_in}
use Rattle.wasm_convert.specs.Known.{CanLookUp, Known, CanConvert}
use Rattle.module_types.specs.Views.{TypeIndex, interned_number, interned_of, span_of}
use Rattle.module_types.specs.Conversion.{id_number, group_of_id, members_of, index_by_id, name_by_id, look_by_id, StandsInterned, KnowsId, HasIndex, interned_members, kinds_of}
use Rattle.module_types.specs.TypeList.{TypeList}
use Rattle.module_types.specs.IndicesByKey.{noted_at}
use Rattle.module_types.specs.Builder.{Builder, BuilderState, builder_view}
use Rattle.module_types.specs.Converter.{TypesAndGroup, KnowsIndex, HaveIndices}
use Rattle.wasm_index.specs.Index.{number_of, index_of}
use Rattle.wasm_index.specs.declared.index.Index.{Index}
use Rattle.wasm_index.specs.declared.spaces.TypeSpace.{TypeSpace}
use Rattle.wasm_spec.specs.declared.types.CoreTypeId.{CoreTypeId}
use Rattle.form_types.proofs.AllOf.{All-joined, All-from_map, All-parts}
use Rattle.module_types.proofs.GroupKinds.{kinds-mapped}
use Rattle.module_types.proofs.Places.{group-ends}

pub all-both : {A : Type 0} (P Q R : A → Type 0) → ((x : A) → P x → Q x → R x) → (xs : List A) → All P xs → All Q xs → All R xs
all-both P Q R each [] p q = All-nil R
all-both P Q R each (x ∷ xs) p q = grind (arith, (all-both P Q R each xs (All-tail P x xs p) (All-tail Q x xs q)))

-- ---- the references of a group

below-more : (a b : ℕ) → a ≤ b → (i : UnpackedIndex) → IsIdBelow a i → IsIdBelow b i
below-more a b h i lt = grind arith

pub names-earlier : (first : ℕ) (gs : List NamedGroup) (k : ℕ) → NameEarlier first gs
    → All (IsIdBelow (first + (first_id gs k + length (get_or gs k [])))) (group_edges (λ r. r) (get_or gs k []))
names-earlier first [] k e = All-nil (IsIdBelow (first + (first_id [] k + 0)))
names-earlier first (g ∷ gs) zero e =
    let le : first + length g ≤ first + (0 + length g) = omega arith in
    All-weaker (IsIdBelow (first + length g)) (IsIdBelow (first + (0 + length g))) (below-more _ _ le) (group_edges (λ r. r) g) e.0
names-earlier first (g ∷ gs) (suc k) e =
    let rest = names-earlier (first + length g) gs k e.1 in
    let next = length (g ++ types_by_id (take k gs)) in
    let le : (first + length g) + (first_id gs k + length (get_or gs k [])) ≤ first + (next + length (get_or gs k [])) =
    omega (arith, length-append g (types_by_id (take k gs))) in
    All-weaker _ (IsIdBelow (first + (next + length (get_or gs k [])))) (below-more _ _ le) (group_edges (λ r. r) (get_or gs k [])) rest

module _ (t : TypesData) (next : ℕ) (spans : List GroupSpan) (ids : ℕ → Option ℕ) (k : ℕ)
    (holds : (m j : ℕ) → ids m ≡ Some j → StandsInterned t spans m j) (room : ids k ≡ None → next + length (members_of t k) < 4294967295) where
  -- an id of a group that is interned, or of the one that comes next
  pub index-known : (n : ℕ) → n < length (types_by_id t.groups) → (group_of_id t n ≡ k) ⊎ IsSome (ids (group_of_id t n)) → HasIndex t next spans ids n
  index-known n h held = record { within = h; stands = λ j e. holds (group_of_id t n) j e; room = λ none. by held none } where
    by : (group_of_id t n ≡ k) ⊎ IsSome (ids (group_of_id t n)) → ids (group_of_id t n) ≡ None → next + length (members_of t (group_of_id t n)) < 4294967295
    by (inl same) none =
        let back = sym same in
        coe 0 1 (j. next + length (members_of t (back j)) < 4294967295) (room (ap ids back ∙ none))
    by (inr some) none = let no = subst IsSome none some in absurd cc

  knows : (bound : ℕ) → bound ≤ length (types_by_id t.groups) → (i : UnpackedIndex) → IsIdBelow bound i
      → (group_of_id t (id_number i) ≡ k) ⊎ IsSome (ids (group_of_id t (id_number i))) → CanLookUp (KnowsId t next spans ids) i
  knows bound le i lt held = grind (arith, index-known)

  pub members-known : TypesAreSound t
      → All (λ i. (group_of_id t (id_number i) ≡ k) ⊎ IsSome (ids (group_of_id t (id_number i)))) (group_edges (λ r. r) (members_of t k))
      → (members : List Read) → members_of t k ≡ map form.sub_type_of members
      → All (λ m. Known (KnowsId t next spans ids) (sub_type_edges (λ i. i) (form.sub_type_of m))) members
  members-known sound held members is =
      let all : Known (KnowsId t next spans ids) (group_edges (λ r. r) (members_of t k)) = grind (arith, group-ends t.groups k, names-earlier 0 t.groups k sound.references, all-both, knows) in
      All-from_map (λ m. Known (KnowsId t next spans ids) (sub_type_edges (λ i. i) m)) form.sub_type_of members
      ((All-parts (CanLookUp (KnowsId t next spans ids)) (sub_type_edges (λ i. i)) (map form.sub_type_of members)).0 (rw is at all))

-- ---- its members

all-in : (P : SubType UnpackedIndex UnpackedIndex → Type 0) (gs : List NamedGroup) (k : ℕ) → All P (types_by_id gs) → All P (get_or gs k [])
all-in P [] k all = All-nil P
all-in P (g ∷ gs) zero all = ((All-joined P g (types_by_id gs)).0 all).0
all-in P (g ∷ gs) (suc k) all = all-in P gs k ((All-joined P g (types_by_id gs)).0 all).1

module _ (t : TypesData) (next : ℕ) (spans : List GroupSpan) (ids : ℕ → Option ℕ) where
  pub members-can : (k : ℕ) (members : List Read) → members_of t k ≡ map form.sub_type_of members → TypesAreSound t
      → All (λ m. CanConvert (look_by_id t next spans ids) (form.composite_of m.composite)) members
  members-can k members is sound =
      let resumed = All-from_map (ContinuesFunction (types_by_id t.groups)) form.sub_type_of members (coe 0 1 (j. All (ContinuesFunction (types_by_id t.groups)) (is j)) (all-in (ContinuesFunction (types_by_id t.groups)) t.groups k sound.continuations)) in
      let short = All-from_map HasShortLists form.sub_type_of members (coe 0 1 (j. All HasShortLists (is j)) (all-in HasShortLists t.groups k sound.lists)) in
      all-both (λ m. ContinuesFunction (types_by_id t.groups) (form.sub_type_of m)) (λ m. HasShortLists (form.sub_type_of m)) (λ m. CanConvert (look_by_id t next spans ids) (form.composite_of m.composite)) (λ m continues short. grind arith) members resumed short

  pub made-is : (m : SubType UnpackedIndex UnpackedIndex) (made : WasmSubType)
      → sub_type_of made ≡ map_sub_type (look_by_id t next spans ids) (index_in (look_by_id t next spans ids)) m
      → interned_of made ≡ map_sub_type (λ i. name_by_id t next spans ids (id_number i)) (λ i. index_by_id t next spans ids (id_number i)) m
  made-is m made is =
      ap (map_sub_type (named interned_number) interned_number) is
      ∙ sub_type_shape.map_twice (look_by_id t next spans ids) (named interned_number) (index_in (look_by_id t next spans ids)) interned_number m

pub members-long : (t : TypesData) (b : Builder) (k : ℕ) → length (interned_members t b k) ≡ length (members_of t k)
members-long t b k = length-map (members_of t k) _

pub members-kinds : (t : TypesData) (b : Builder) (k : ℕ) → kinds_of (interned_members t b k) ≡ kinds_of (members_of t k)
members-kinds t b k =
    let look = λ (i : UnpackedIndex). name_by_id t (length b.built.types) b.built.groups b.ids (id_number i) in
    let index = λ (i : UnpackedIndex). index_by_id t (length b.built.types) b.built.groups b.ids (id_number i) in
    kinds-mapped look index (members_of t k)

-- ---- a converter

-- what looks up the ids of a converter knows each that the converter knows
pub known-by : (Callable : Index TypeSpace → Type 0) (b : BuilderState) (bound : ℕ) (ids : Option TypesAndGroup) (i : UnpackedIndex) (id : CoreTypeId)
    → i ≡ index.Id id → CanLookUp (KnowsIndex Callable b bound ids) i → (p : TypesAndGroup) → ids ≡ Some p → HaveIndices b ids
    → (t : TypesData) (list : TypeList) (held : List (Option ℕ)) (next : TypeIndex) → t ≡ p.0 → list ≡ b.list → held ≡ b.ids → next ≡ index_of (length b.list.types)
    → CanLookUp (KnowsId t (number_of next) (map span_of list.groups) (noted_at held)) i
known-by Callable b bound ids i id is known p one have t list held next types lists helds nexts =
    let here = coe 0 1 (j. CanLookUp (KnowsIndex Callable b bound (one j)) (is j)) known in
    let whole = coe 0 1 (j. HaveIndices b (one j)) have in
    let found = index-known p.0 (length b.list.types) (builder_view b).built.groups (builder_view b).ids p.1 whole.0 whole.1 id.0 here.0 here.1 in
    coe 0 1 (j. CanLookUp (KnowsId (sym types j) (number_of (sym nexts j)) (map span_of (sym lists j).groups) (noted_at (sym helds j))) (sym is j)) found
