-- What the rules say about the groups of a module, as they are numbered.
use Rattle.std.proofs.Common.{◌≡◌, ◌∙◌, ◌↔◌, ℕ, ◌+◌, ◌<◌, ◌≤◌, List, [], ◌∷◌, ◌++◌, length, map, Option, Some, None, refl, sym, ap, subst, arith, length-append, append_assoc}
use Rattle.std.specs.Prelude.{IfSome}
use Rattle.std.specs.Option.{option_to_list}
use Rattle.std.specs.List.{All}
use Rattle.std.proofs.lemmas.List.{length-map, map-append, append-nil}
use Rattle.std.proofs.lemmas.List.Elements.{All-nil, All-cons, All-head, All-tail, All-append, All-map, All-weaker}
use Rattle.wasm_spec.specs.declared.types.UnpackedIndex.{UnpackedIndex}
use Rattle.wasm_spec.specs.declared.types.UnpackedIndex.TheVariants.{Module}
use Rattle.wasm_spec.specs.TypeData.{Composite, sub_type_edges, group_edges, composite_edges, map_sub_type}
use Rattle.type_spec.specs.TypeShapes.{group_shape}
use Rattle.type_spec.specs.Names.{plainly}
use Rattle.type_spec.proofs.Homes.{joined, size}
use Rattle.rule_spec.specs.Lists.{Declared, declared_from, declared_groups}
use Rattle.rule_spec.specs.TypeRules.{IsBelow, KindIsBelow}
use Rattle.form_types.specs.Types.{NamedGroup, types_by_id}
use Rattle.form_types.specs.Below.{NamesBelow}
use Rattle.form_types.specs.Placed.{place_of, placed}
use Rattle.form_types.specs.Taken.{NearIn, places}
use Rattle.form_types.proofs.AllOf.{All-joined}

-- ---- the declared types are the joined groups

from-types : (end index : ℕ) (g : NamedGroup) → map (λ (d : Declared). d.type) (declared_from end index g) ≡ g
from-types end index [] = refl
from-types end index (t ∷ ts) = ap (λ l. t ∷ l) (from-types end (index + 1) ts)

pub declared-types : (index : ℕ) (gs : List NamedGroup) → map (λ (d : Declared). d.type) (declared_groups index gs) ≡ types_by_id gs
declared-types index [] = refl
declared-types index (g ∷ gs) =
    map-append (λ (d : Declared). d.type) (declared_from (index + length g) index g) (declared_groups (index + length g) gs)
    ∙ (λ i. from-types (index + length g) index g i ++ declared-types (index + length g) gs i)

-- a group's types are joined with the others
pub places-joined : (gs : List NamedGroup) → joined (places gs) ≡ map (map_sub_type place_of place_of) (types_by_id gs)
places-joined [] = refl
places-joined (g ∷ gs) =
    ap (λ l. placed g ++ l) (places-joined gs) ∙ sym (map-append (map_sub_type place_of place_of) g (types_by_id gs))

pub size-places : (gs : List NamedGroup) → size (places gs) ≡ length (types_by_id gs)
size-places gs = ap length (places-joined gs) ∙ length-map (types_by_id gs) _

-- ---- references

place-below : (end : ℕ) (i : UnpackedIndex) → IsBelow end i → place_of i < end
place-below end (Module i) below = below
place-below end i below = absurd below

supertype-near : (end index : ℕ) (s : Option UnpackedIndex) → index ≤ end → IfSome s (IsBelow index)
    → All (λ i. place_of i < end) (option_to_list s)
supertype-near end index None le below = All-nil (λ i. place_of i < end)
supertype-near end index (Some i) le below =
    All-cons (λ i. place_of i < end) i [] (let lt = place-below index i below in omega (arith, lt)) (All-nil (λ i. place_of i < end))

kind-near : (end : ℕ) (kind : Composite UnpackedIndex UnpackedIndex) → KindIsBelow end kind → All (λ i. place_of i < end) (composite_edges (λ i. i) kind)
unfolding KindIsBelow
kind-near end kind below = All-weaker (IsBelow end) (λ i. place_of i < end) (place-below end) (composite_edges (λ i. i) kind) below

members-near : (end index : ℕ) (g : NamedGroup) → index + length g ≤ end → All NamesBelow (declared_from end index g)
    → All (λ i. place_of i < end) (group_edges (λ i. i) g)
members-near end index [] le all = All-nil (λ i. place_of i < end)
members-near end index (t ∷ ts) le all =
    let d : Declared = record { type = t; index = index; group_end = end } in
    let well : NamesBelow d = All-head NamesBelow d (declared_from end (index + 1) ts) all in
    All-append (λ i. place_of i < end) (sub_type_edges (λ i. i) t) (group_edges (λ i. i) ts)
    (All-append (λ i. place_of i < end) (option_to_list t.supertype) (composite_edges (λ i. i) t.composite.inner)
    (supertype-near end index t.supertype (omega arith) well.supertype) (kind-near end t.composite.inner well.indices))
    (members-near end (index + 1) ts (omega arith) (All-tail NamesBelow d (declared_from end (index + 1) ts) all))

-- ---- a group that comes next

-- the types that it declares
abbrev pub last_declared : List NamedGroup → NamedGroup → List Declared
last_declared done g = declared_from (length (types_by_id done) + length g) (length (types_by_id done)) g

declared-more : (index : ℕ) (done : List NamedGroup) (g : NamedGroup) → declared_groups index (done ++ g ∷ [])
    ≡ declared_groups index done ++ declared_from (index + length (types_by_id done) + length g) (index + length (types_by_id done)) g
declared-more index [] g =
    let e : index ≡ index + 0 = omega arith in
    append-nil (declared_from (index + length g) index g) ∙ ap (λ n. declared_from (n + length g) n g) e
declared-more index (h ∷ done) g =
    let front = declared_from (index + length h) index h in
    let e : index + length h + length (types_by_id done) ≡ index + length (types_by_id (h ∷ done)) = omega (arith, length-append h (types_by_id done)) in
    ap (λ ds. front ++ ds) (declared-more (index + length h) done g)
    ∙ sym (append_assoc front (declared_groups (index + length h) done) _)
    ∙ ap (λ n. declared_groups index (h ∷ done) ++ declared_from (n + length g) n g) e

-- each type names what it may, where those before do and those of the group
pub below-more : (done : List NamedGroup) (g : NamedGroup)
    → All NamesBelow (declared_groups 0 (done ++ g ∷ [])) ↔ (All NamesBelow (declared_groups 0 done) × All NamesBelow (last_declared done g))
below-more done g =
    let at : length (types_by_id done) ≡ 0 + length (types_by_id done) = omega arith in
    let all : declared_groups 0 done ++ last_declared done g ≡ declared_groups 0 (done ++ g ∷ []) =
    ap (λ n. declared_groups 0 done ++ declared_from (n + length g) n g) at ∙ sym (declared-more 0 done g) in
    subst (λ ds. All NamesBelow ds ↔ (All NamesBelow (declared_groups 0 done) × All NamesBelow (last_declared done g))) all
    (All-joined NamesBelow (declared_groups 0 done) (last_declared done g))

-- ---- references of groups that are placed

-- those of a group whose types name what they may name types before its end
pub placed-near : (start : ℕ) (g : NamedGroup) → All NamesBelow (declared_from (start + length g) start g)
    → NearIn (record { start = start; members = placed g })
placed-near start g all =
    let end : start + length g ≡ start + length (placed g) = omega (arith, length-map g (map_sub_type place_of place_of)) in
    let near = subst (λ n. All (λ i. place_of i < n) (group_edges (λ i. i) g)) end (members-near (start + length g) start g (omega arith) all) in
    subst (All (λ r. r < start + length (placed g))) (sym ((plainly group_shape).edges_map place_of g))
    (All-map (λ r. r < start + length (placed g)) place_of (group_edges (λ i. i) g) near)

pub near-last : (done : List NamedGroup) (g : NamedGroup) → All NamesBelow (last_declared done g)
    → NearIn (record { start = size (places done); members = placed g })
near-last done g all =
    subst (λ n. NearIn (record { start = n; members = placed g })) (sym (size-places done)) (placed-near (length (types_by_id done)) g all)
