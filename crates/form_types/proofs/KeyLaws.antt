-- A key is that of one canonical group, and look-up distinguishes keys.
use Rattle.std.proofs.Common.{◌≡◌, ◌∙◌, ℕ, true, nat_eq, List, map, refl, sym, ap, subst, arith}
use Rattle.std.specs.Cmp.Lexicographic.{pointwise}
use Rattle.std.specs.Bool.{Decides}
use Rattle.std.proofs.lemmas.Bool.{eqb-true}
use Rattle.std.proofs.lemmas.Bool.Decides.{Decides-and}
use Rattle.std.proofs.lemmas.Slice.Eq.{bytes_eq-Decides}
use Rattle.wasm_spec.specs.declared.types.UnpackedIndex.{UnpackedIndex}
use Rattle.wasm_spec.specs.declared.types.UnpackedIndex.TheVariants.{Module, RecGroup, Id}
use Rattle.wasm_spec.specs.contracts.types.UnpackedIndexPartialEq.TheImpl as index
use Rattle.wasm_spec.specs.contracts.types.UnpackedIndexEq.TheImpl.Laws as index_equal
use Rattle.std.specs.Prelude.{slice_index}
use Rattle.wasm_spec.specs.TypeData.{Group, map_group, group_edges}
use Rattle.form_types.specs.Types.{NamedGroup}
use Rattle.form_types.specs.Placed.{place_of, placed}
use Rattle.type_spec.specs.Shapes.{erased}
use Rattle.type_spec.specs.TypeShapes.{group_shape}
use Rattle.type_spec.specs.Names.{plainly}
use Rattle.type_spec.specs.ListLaws.{map-same, map-twice}
use Rattle.type_spec.specs.Equality.{Target, Inside, Earlier, target, canonical}
use Rattle.type_spec.specs.Tests.{all-decide}
use Rattle.form_types.specs.declared.canonical.CanonicalGroup.{CanonicalGroup}
use Rattle.form_types.specs.contracts.canonical.CanonicalGroupPartialEq.TheImpl as group
use Rattle.form_types.specs.Codes.{group_codes}
use Rattle.form_types.specs.Keys.{GroupKey, index_of, canonical_index, targets, group_key, key_of}
use Rattle.form_types.proofs.Decoding.{group-mapped, group-told}

-- ---- equal keys are those of one group

-- what an index of a key is of
named : UnpackedIndex → Target ℕ
named (RecGroup place) = Inside place
named (Id id) = Earlier id.0
named (Module place) = Inside place

named-back : (t : Target ℕ) → named (index_of t) ≡ t
unfolding named
named-back (Inside place) = refl
named-back (Earlier id) = refl

all-back : (ts : List (Target ℕ)) → map named (map index_of ts) ≡ ts
all-back ts = map-twice index_of named (λ t. t) named-back ts ∙ map-same (λ t. t) (λ t. refl) ts

pub group_key-exact : (g h : Group (Target ℕ) (Target ℕ)) → group_key g ≡ group_key h → g ≡ h
group_key-exact g h same =
    let codes : group_codes g ≡ group_codes h = ap (λ (f : GroupKey). f.codes) same in
    let references : map index_of (group_edges (λ t. t) g) ≡ map index_of (group_edges (λ t. t) h) = ap (λ (f : GroupKey). f.references) same in
    (plainly group_shape).determined g h
    (group-told _ _ (group-mapped erased erased g ∙ codes ∙ sym (group-mapped erased erased h)))
    (sym (all-back _) ∙ ap (map named) references ∙ all-back _)

-- ---- keys that are looked up are equal where they say the same

index-told : (i j : UnpackedIndex) → index.ghosts.eq i j ≡ true → i ≡ j
index-told i j same = grind (arith, eqb-true)

index-decides : (i j : UnpackedIndex) → Decides (index.ghosts.eq i j) (i ≡ j)
index-decides i j = (index-told i j, λ same. subst (λ k. index.ghosts.eq i k ≡ true) same (index_equal.laws-law.refl i))

pub key-decides : (a b : CanonicalGroup) → Decides (group.ghosts.eq a b) (key_of a ≡ key_of b)
key-decides a b =
    let both = Decides-and (pointwise nat_eq a.frame.items b.frame.items) (pointwise index.ghosts.eq a.references.items b.references.items)
    (bytes_eq-Decides a.frame.items b.frame.items) (all-decide index.ghosts.eq index-decides a.references.items b.references.items) in (
      (λ same. let parts = both.0 same in λ i. record { codes = parts.0 i; references = parts.1 i }),
      (λ same. both.1 ((λ i. (same i).codes), (λ i. (same i).references))),
    )

-- ---- what is made is the key

pub group_key-made : (ids : List ℕ) (start : ℕ) (g : NamedGroup)
    → record { codes = group_codes g; references = targets ids start (group_edges (λ i. i) g) }
    ≡ group_key (canonical (slice_index ids) (record { start = start; members = placed g }))
group_key-made ids start g =
    let t : ℕ → Target ℕ = target (slice_index ids) start in
    let codes : group_codes g ≡ group_codes (map_group t t (placed g)) = sym (group-mapped t t (placed g) ∙ group-mapped place_of place_of g) in
    let edges : group_edges (λ r. r) (map_group t t (placed g)) ≡ map t (map place_of (group_edges (λ i. i) g)) =
    (plainly group_shape).edges_map t (placed g) ∙ ap (map t) ((plainly group_shape).edges_map place_of g) in
    let references : targets ids start (group_edges (λ i. i) g) ≡ map index_of (group_edges (λ r. r) (map_group t t (placed g))) =
    sym (ap (map index_of) (edges ∙ map-twice place_of t (λ i. t (place_of i)) (λ i. refl) (group_edges (λ i. i) g))
    ∙ map-twice (λ i. t (place_of i)) index_of (canonical_index ids start) (λ i. refl) (group_edges (λ i. i) g)) in
    λ k. record { codes = codes k; references = references k }
