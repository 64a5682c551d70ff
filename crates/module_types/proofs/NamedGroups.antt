-- A list stays one that may be listed: once a group of a list of types is appended with its
-- trampolines, an exception type or the startup type.
use Rattle.std.proofs.Common.{◌≡◌, ◌∙◌, ◌<◌, ◌≤◌, ℕ, zero, suc, ◌+◌, ◌-◌, true, false, List, [], ◌∷◌, ◌++◌, length, take, drop, get_or, map, Option, Some, None, refl, sym, ap, subst, inl, inr, arith}
use Rattle.std.specs.Prelude.{◌⊎◌, slice_get, IsSome}
use Rattle.std.specs.List.{All}
use Rattle.std.proofs.lemmas.List.{length-append, get_or_past, take_all}
use Rattle.std.proofs.lemmas.List.Concat.{get_or-flat_map}
use Rattle.std.proofs.lemmas.List.Elements.{All-nil, All-cons, All-append, All-map, All-weaker, All-head, All-tail}
use Rattle.std.proofs.lemmas.Option.{slice_get-get_or}
use Rattle.std.proofs.lemmas.Bool.{cases_lt}
use Rattle.wasm_spec.specs.declared.types.UnpackedIndex.{UnpackedIndex}
use Rattle.wasm_spec.specs.declared.types.UnpackedIndex.TheVariants as index
use Rattle.wasm_spec.specs.TypeData.{SubType, Struct, Func, map_group, group_edges}
use Rattle.type_spec.specs.TypeShapes.{group_shape}
use Rattle.type_spec.specs.Names.{NameKind, Named, index_of, plainly, alike-mapped}
use Rattle.type_spec.specs.Interned.{Interned, Called, Built, GroupSpan, kind_of_type, composite_at, plain, mapped, opened, with_group, with_exception, with_startup, exception_for, startup_type, empty}
use Rattle.type_spec.proofs.ByNames.{name_by, by_names, zip-known-itself}
use Rattle.type_spec.proofs.Homes.{joined, size}
use Rattle.form_types.specs.Types.{TypesData, types_by_id, group_numbers, IsIdBelow, TypesAreSound}
use Rattle.form_types.specs.Numbered.{first_id}
use Rattle.module_types.specs.Builder.{Builder}
use Rattle.module_types.specs.Conversion as conversion
use Rattle.module_types.specs.Conversion.{id_number, group_of_id, members_of, no_span, start_by, kinds_of, interned_members, interned_index, name_by_id}
use Rattle.module_types.specs.InTurn.{CanIntern}
use Rattle.module_types.specs.ListGroups.{unkinded, kind_in, list_groups, IsWellNamed}
use Rattle.module_types.specs.Listed.{IsUnshared, MayBeListed}
use Rattle.module_types.proofs.GroupKinds.{kinds-mapped, same-long}
use Rattle.module_types.proofs.Places.{group-ends, numbers-long, starts, within}
use Rattle.module_types.proofs.Convertible.{names-earlier, members-long, members-kinds, all-both}
use Rattle.module_types.proofs.GroupMembers.{composite-behind, trampoline_next, all-steps}
use Rattle.module_types.proofs.WellNamed.{AllBelow, Well, kind-before, unkinded-long}
use Rattle.module_types.proofs.NamedLists.{well-empty, well-group, well-exception, well-startup}
use Rattle.module_types.proofs.Standing.{joined-from}
use Rattle.module_types.proofs.ListedLists.{earlier-below}

-- ---- kinds at positions

-- a member of some types that are in a list from an index on, and its kind
record HasKind (ts : List Interned) (i : ℕ) (kind : NameKind) : Type 0 where
  pub inside : i < length ts
  pub is : kind_in ts i ≡ kind

module _ {H R : Type 0} (d : SubType H R) where
  front-kind : (n : ℕ) (ts : List Interned) (us : List (SubType H R)) (p : ℕ) → p < length us → kinds_of (take n ts) ≡ kinds_of us
      → HasKind ts p (kind_of_type (get_or us p d).composite.inner)
  front-kind zero ts (u ∷ us) p lt same = absurd cc
  front-kind (suc n) [] (u ∷ us) p lt same = absurd cc
  front-kind (suc n) (t ∷ ts) (u ∷ us) zero lt same = record { inside = omega arith; is = cc }
  front-kind (suc n) (t ∷ ts) (u ∷ us) (suc p) lt same =
      let rest = front-kind n ts us p (omega (arith, lt)) (cc) in
      record { inside = omega (arith, rest.inside); is = rest.is }
  front-kind n ts [] p lt same = absurd (omega (arith, lt))

  kind-from : (n start : ℕ) (ts : List Interned) (us : List (SubType H R)) (p : ℕ) → p < length us → kinds_of (take n (drop start ts)) ≡ kinds_of us
      → HasKind ts (start + p) (kind_of_type (get_or us p d).composite.inner)
  kind-from n zero ts us p lt same =
      let at : 0 + p ≡ p = omega arith in
      subst (λ i. HasKind ts i (kind_of_type (get_or us p d).composite.inner)) (sym at) (front-kind n ts us p lt same)
  kind-from zero (suc start) [] us p lt same = absurd (omega (arith, lt, same-long {H = Named ℕ} {I = H} {R = ℕ} {S = R} (take zero []) us same))
  kind-from (suc n) (suc start) [] us p lt same = absurd (omega (arith, lt, same-long {H = Named ℕ} {I = H} {R = ℕ} {S = R} (take (suc n) []) us same))
  kind-from n (suc start) (t ∷ ts) us p lt same =
      let rest = kind-from n start ts us p lt same in
      let at : suc (start + p) ≡ suc start + p = omega arith in
      subst (λ i. HasKind (t ∷ ts) i (kind_of_type (get_or us p d).composite.inner)) at (record { inside = omega (arith, rest.inside); is = rest.is })

-- ---- a group of a list of types

module _ (t : TypesData) (b : Builder) (k : ℕ) (can : CanIntern t b k) (sound : TypesAreSound t) where
  abbrev next : List Interned
  next = interned_members t b k

  abbrev some : SubType UnpackedIndex UnpackedIndex
  some = record { is_final = true; supertype = None; composite = record { inner = Struct []; shared = false } }

  -- an id of a member of a group
  module _ (n : ℕ) (lt : n < length (types_by_id t.groups)) where
    abbrev g : ℕ
    g = group_of_id t n

    abbrev p : ℕ
    p = n - first_id t.groups g

    at-number : slice_get (group_numbers 0 t.groups) n ≡ Some g
    at-number = slice_get-get_or (group_numbers 0 t.groups) n 0 (omega (arith, lt, numbers-long 0 t.groups))

    low : first_id t.groups g ≤ n
    low = starts t n g at-number

    member-inside : p < length (members_of t g)
    member-inside = omega (arith, low, within t n g at-number)

    known : g < length t.groups
    known =
        elim (cases_lt g (length t.groups)) [
          | inl lt ↦ lt
          | inr past ↦ let none = ap length (get_or_past t.groups g [] past) in absurd (omega (arith, none, member-inside))
        ]

    -- the kind of its type
    abbrev kind-there : NameKind
    kind-there = kind_of_type (get_or (members_of t g) p some).composite.inner

    kind-is : conversion.kind_in (slice_get (types_by_id t.groups) n) ≡ kind-there
    kind-is =
        let at : first_id t.groups g + p ≡ n = omega (arith, low) in
        ap conversion.kind_in (slice_get-get_or (types_by_id t.groups) n some lt)
        ∙ ap (λ m. kind_of_type (get_or (types_by_id t.groups) m some).composite.inner) (sym at)
        ∙ ap (λ (s : SubType UnpackedIndex UnpackedIndex). kind_of_type s.composite.inner)
        (get_or-flat_map (λ (h : List (SubType UnpackedIndex UnpackedIndex)). h) t.groups g p [] some known member-inside)

    -- where its group is, or comes next
    found-by : (o : Option ℕ) → b.ids g ≡ o → (g ≡ k) ⊎ IsSome o
        → HasKind (b.built.types ++ next) (start_by t (length b.built.types) b.built.groups b.ids o + p) kind-there
    found-by (Some j) held named =
        let s = kind-from some (length (members_of t g)) (get_or b.built.groups j no_span).start b.built.types (members_of t g) p member-inside (can.holds g j held).kinds in
        record { inside = omega (arith, s.inside, length-append b.built.types next); is = kind-before b.built.types next _ s.inside ∙ s.is }
    found-by None none (inr wrong) = absurd cc
    found-by None none (inl same) =
        let kinds : kinds_of (take (length next) next) ≡ kinds_of (members_of t g) =
        ap kinds_of (take_all (length next) next (omega arith)) ∙ members-kinds t b k ∙ ap (λ m. kinds_of (members_of t m)) (sym same) in
        let s = front-kind some (length next) next (members_of t g) p member-inside kinds in
        record {
          inside = omega (arith, s.inside, length-append b.built.types next);
          is = ap (λ c. kind_of_type c) (composite-behind b.built.types next p) ∙ s.is;
        }

    found : (g ≡ k) ⊎ IsSome (b.ids g) → HasKind (b.built.types ++ next) (interned_index t b n) kind-there
    found named = found-by (b.ids g) refl named

  -- what a reference of the group becomes
  abbrev number : UnpackedIndex → ℕ
  number i = interned_index t b (id_number i)

  record IsFound (i : UnpackedIndex) : Type 0 where
    pub inside : number i < length b.built.types + length next
    pub is : kind_in (b.built.types ++ next) (number i) ≡ conversion.kind_in (slice_get (types_by_id t.groups) (id_number i))

  abbrev edges : List UnpackedIndex
  edges = group_edges (λ i. i) (members_of t k)

  found-of : (bound : ℕ) → bound ≤ length (types_by_id t.groups) → (i : UnpackedIndex) → IsIdBelow bound i
      → (group_of_id t (id_number i) ≡ k) ⊎ IsSome (b.ids (group_of_id t (id_number i))) → IsFound i
  found-of bound le (index.Id id) lt named =
      let lt' : id.0 < length (types_by_id t.groups) = omega (arith, lt, le) in
      let x = found id.0 lt' named in
      record { inside = omega (arith, x.inside, length-append b.built.types next); is = x.is ∙ sym (kind-is id.0 lt') }
  found-of bound le (index.Module n) lt named = absurd lt
  found-of bound le (index.RecGroup n) lt named = absurd lt

  all-found : All IsFound edges
  all-found =
      let bound = first_id t.groups k + length (members_of t k) in
      all-both (IsIdBelow (0 + bound)) _ IsFound (found-of (0 + bound) (omega (arith, group-ends t.groups k))) edges
      (names-earlier 0 t.groups k sound.references) can.named

  plain-next : unkinded next ≡ map_group number number (members_of t k)
  plain-next = group_shape.map_twice (λ i. name_by_id t (length b.built.types) b.built.groups b.ids (id_number i)) index_of number (λ (r : ℕ). r) (members_of t k)

  next-below : AllBelow (length b.built.types + length next) (unkinded next)
  next-below =
      let Low : ℕ → Type 0 = λ r. r < length b.built.types + length next in
      subst (AllBelow (length b.built.types + length next)) (sym plain-next)
      (subst (All Low) (sym ((plainly group_shape).edges_map number (members_of t k)))
      (All-map Low number edges (All-weaker IsFound (λ i. Low (number i)) (λ i x. x.inside) edges all-found)))

  -- a group by names
  twice : (f : UnpackedIndex → Named ℕ) → map_group (λ (n : Named ℕ). n) (index_of {R = ℕ}) (map_group f f (members_of t k))
      ≡ map_group f (λ i. (f i).index) (members_of t k)
  twice f = group_shape.map_twice f (λ (n : Named ℕ). n) f (index_of {R = ℕ}) (members_of t k)

  next-kinds : by_names (kind_in (b.built.types ++ next)) (λ r. r) (unkinded next) ≡ next
  next-kinds =
      let kind : ℕ → NameKind = kind_in (b.built.types ++ next) in
      let by : UnpackedIndex → Named ℕ = λ i. name_by kind (λ (r : ℕ). r) (number i) in
      let look : UnpackedIndex → Named ℕ = λ i. name_by_id t (length b.built.types) b.built.groups b.ids (id_number i) in
      ap (by_names kind (λ r. r)) plain-next
      ∙ group_shape.map_twice number (name_by kind (λ r. r)) number (λ (r : ℕ). r) (members_of t k)
      ∙ sym (twice by)
      ∙ ap (map_group (λ (n : Named ℕ). n) (index_of {R = ℕ})) (alike-mapped (plainly group_shape) by look (members_of t k) (members_of t k) (record {
        frames = refl;
        edges = zip-known-itself IsFound (λ i j. by i ≡ look j) (λ i x. λ j. record { kind = x.is j; index = number i }) edges all-found;
      }))
      ∙ twice look

  pub well-next-group : Well b.built.types b.built.groups → Well (with_group b.built next).types (with_group b.built next).groups
  well-next-group w = well-group b.built next (omega (arith, can.filled, members-long t b k)) w next-below next-kinds

-- ---- lists that may be listed

pub well-of : (b : Built) → IsWellNamed b → Well b.types b.groups
well-of b w =
    let whole : joined (list_groups b) ≡ unkinded b.types = joined-from b.types b.groups 0 w.orderly in
    let sizes : size (list_groups b) ≡ length b.types = ap length whole ∙ unkinded-long b.types in
    record {
      orderly = w.orderly;
      earlier = w.earlier;
      below = subst (λ g. AllBelow (length b.types) g) whole
          (earlier-below (list_groups b) 0 (length b.types) w.earlier (omega (arith, sizes)));
      kinds = w.kinds;
    }

well-named : (b : Built) → Well b.types b.groups → IsWellNamed b
well-named b w = record { orderly = w.orderly; earlier = w.earlier; kinds = w.kinds }

abbrev Unshared : Interned → Type 0
Unshared t = t.composite.shared ≡ false

abbrev KeepsUnshared : Built → Built → Type 0
KeepsUnshared b c = IsUnshared b.types → IsUnshared c.types

one-more : (ts : List Interned) (t : Interned) → IsUnshared ts → t.composite.shared ≡ false → IsUnshared (ts ++ t ∷ [])
one-more ts t all plain = All-append Unshared ts (t ∷ []) all (All-cons Unshared t [] plain (All-nil Unshared))

unshared-next : (b : Built) (known : Called → Option ℕ) (i : ℕ) (f : Called) → KeepsUnshared b (trampoline_next b known i f)
unshared-next b known i f all = one-more b.types (plain (Func (mapped f))) all refl

unshared-group : (b : Built) (ts : List Interned) → IsUnshared b.types → IsUnshared ts → IsUnshared (with_group b ts).types
unshared-group b ts all more =
    all-steps KeepsUnshared (λ b a. a) (λ b known i k a. a) unshared-next (λ b c d x y a. y (x a)) (opened b ts) (length b.types) ts
    (All-append Unshared b.types ts all more)

pub empty-listed : MayBeListed empty
empty-listed = record { well_named = well-named empty well-empty; unshared = All-nil Unshared }

pub group-listed : (t : TypesData) (b : Builder) (k : ℕ) → CanIntern t b k → TypesAreSound t → IsUnshared (interned_members t b k) → MayBeListed b.built
    → MayBeListed (with_group b.built (interned_members t b k))
group-listed t b k can sound plain x = record {
  well_named = well-named (with_group b.built (interned_members t b k)) (well-next-group t b k can sound (well-of b.built x.well_named));
  unshared = unshared-group b.built (interned_members t b k) x.unshared plain;
}

pub exception-listed : (b : Built) (i : ℕ) → i < length b.types → MayBeListed b → MayBeListed (with_exception b i)
exception-listed b i lt x = record {
  well_named = well-named (with_exception b i) (well-exception b i (omega (arith, lt)) (well-of b x.well_named));
  unshared = one-more b.types (plain (exception_for i (composite_at b.types i))) x.unshared refl;
}

pub startup-listed : (b : Built) → MayBeListed b → MayBeListed (with_startup b true)
startup-listed b x = record {
  well_named = well-named (with_startup b true) (well-startup b (well-of b x.well_named));
  unshared = one-more b.types startup_type x.unshared refl;
}
