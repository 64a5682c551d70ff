-- Entries one after another, up to the one that has an index.
use Rattle.std.proofs.Common.{◌≡◌, ℕ, ◌+◌, ◌-◌, ◌<◌, ◌≤◌, Bool, true, false, List, [], ◌∷◌, ◌++◌, length, take, Some, refl, sym, ap, ◌∙◌, append_assoc, arith, inl, inr}
use Rattle.std.specs.Prelude.{slice_get, filter}
use Rattle.std.specs.List.{flat_map}
use Rattle.std.proofs.Math.Seq.{take-append_seam}
use Rattle.std.proofs.lemmas.List.{append-nil, length-append}
use Rattle.std.proofs.lemmas.List.Concat.{flat_map-append}
use Rattle.std.proofs.lemmas.List.Elements.{filter-append}
use Rattle.wasm_spec.specs.declared.types.UnpackedIndex.{UnpackedIndex}
use Rattle.wasm_spec.specs.declared.entities.ExternalKind.{ExternalKind}
use Rattle.wasm_spec.specs.TypeData.{Group}
use Rattle.wasm_spec.specs.Module.{Import}
use Rattle.refusal_place.specs.declared.kind.SectionKind.{SectionKind}
use Rattle.refusal_place.specs.declared.kind.SectionKind.TheVariants as kind
use Rattle.rule_breaks.specs.ImportKinds.{is_import_of, imported_count, IsIndexed}
use Rattle.rule_breaks.specs.SectionEntries.{IsGroupOf}
use Rattle.rule_breaks.proofs.Searching.{seam}

-- so many entries come before those that remain
pub record ComesTo {X : Type 0} (number : ℕ) (left all : List X) : Type 0 where
  pub done : List X
  pub counted : length done ≡ number
  pub whole : done ++ left ≡ all

abbrev pub comes_none : {X : Type 0} (left all : List X) → left ≡ all → ComesTo 0 left all
comes_none left all same = record { done = []; counted = refl; whole = same }

module _ {X : Type 0} (number : ℕ) (left rest all : List X) (x : X) (c : ComesTo number left all) (at : left ≡ x ∷ rest) where
  abbrev pub comes_more : (next : ℕ) → next ≡ number + 1 → ComesTo next rest all
  comes_more next is = record {
    done = c.done ++ x ∷ [];
    counted = omega (arith, length-append c.done (x ∷ []), c.counted, is);
    whole = append_assoc c.done (x ∷ []) rest ∙ ap (λ (l : List X). c.done ++ l) (sym at) ∙ c.whole;
  }

  stands : slice_get all number ≡ Some x
  stands =
      let there = seam c.done rest x in
      let whole : c.done ++ x ∷ rest ≡ all = ap (λ (l : List X). c.done ++ l) (sym at) ∙ c.whole in
      ap (slice_get all) (sym c.counted) ∙ ap (λ (l : List X). slice_get l (length c.done)) (sym whole) ∙ there

-- those before are the first
first_are : {X : Type 0} (number : ℕ) (left all : List X) (c : ComesTo number left all) → take number all ≡ c.done
first_are {X = X} number left all c =
    ap (λ (n : ℕ). take n all) (sym c.counted) ∙ ap (take (length c.done)) (sym c.whole) ∙ take-append_seam c.done left

-- ---- groups

abbrev Groups : Type 0
Groups = List (Group UnpackedIndex UnpackedIndex)

-- the types of the groups before, and what is left of the index
pub record SeeksGroup (number left index : ℕ) (rest all : Groups) : Type 0 where
  pub comes : ComesTo number rest all
  pub passed : length (flat_map (λ group. group) comes.done) + left ≡ index

pub seeks_first : (index left : ℕ) (rest all : Groups) → left ≡ index → rest ≡ all → SeeksGroup 0 left index rest all
seeks_first index left rest all is same = record { comes = comes_none rest all same; passed = omega (arith, is) }

types_of_one : (done : Groups) (g : Group UnpackedIndex UnpackedIndex)
    → length (flat_map (λ group. group) (done ++ g ∷ [])) ≡ length (flat_map (λ group. group) done) + length g
types_of_one done g =
    let types : Groups → List _ = flat_map (λ group. group) in
    omega (
      arith,
      ap length (flat_map-append (λ group. group) done (g ∷ [])),
      length-append (types done) (types (g ∷ [])),
      ap length (append-nil g),
    )

module _ (number left index : ℕ) (rest others all : Groups) (g : Group UnpackedIndex UnpackedIndex) (s : SeeksGroup number left index rest all) (at : rest ≡ g ∷ others) where
  pub is_group : left < length g → IsGroupOf all index number
  is_group l =
      let more = comes_more number rest others all g s.comes at (number + 1) refl in
      let before = ap (λ (l : Groups). length (flat_map (λ group. group) l)) (first_are number rest all s.comes) in
      let with = ap (λ (l : Groups). length (flat_map (λ group. group) l)) (first_are (number + 1) others all more) in
      record { begins = omega (arith, before, s.passed); ends = omega (arith, with, types_of_one s.comes.done g, s.passed, l) }

  pub seeks_more : (next : ℕ) → next ≡ number + 1 → (count : ℕ) → length g ≡ count → count ≤ left → SeeksGroup next (left - count) index others all
  seeks_more next is count long l = record {
    comes = comes_more number rest others all g s.comes at next is;
    passed = omega (arith, types_of_one s.comes.done g, s.passed, long, l);
  }

pub seeks_ended : (number left index : ℕ) (rest all : Groups) → SeeksGroup number left index rest all → rest ≡ []
    → index < length (flat_map (λ group. group) all) → ⊥
seeks_ended number left index rest all s none l =
    let same : s.comes.done ≡ all = sym (append-nil s.comes.done) ∙ ap (λ (l : Groups). s.comes.done ++ l) (sym none) ∙ s.comes.whole in
    omega (arith, ap (λ (l : Groups). length (flat_map (λ group. group) l)) same, s.passed, l)

-- ---- imports

-- the imports of the kind before, and what is left of the index
pub record SeeksImport (k : ExternalKind) (number left index : ℕ) (rest all : List Import) : Type 0 where
  pub comes : ComesTo number rest all
  pub passed : imported_count k comes.done + left ≡ index

pub seeks_import : (k : ExternalKind) (index : ℕ) (rest all : List Import) → rest ≡ all → SeeksImport k 0 index index rest all
seeks_import k index rest all same = record { comes = comes_none rest all same; passed = omega arith }

abbrev one : Bool → ℕ
one true = 1
one false = 0

count_one : (k : ExternalKind) (i : Import) (b : Bool) → is_import_of k i.type ≡ b → imported_count k (i ∷ []) ≡ one b
count_one k i true is = rw is refl
count_one k i false is = rw is refl

count_more : (k : ExternalKind) (done : List Import) (i : Import) (b : Bool) → is_import_of k i.type ≡ b
    → imported_count k (done ++ i ∷ []) ≡ imported_count k done + one b
count_more k done i b is =
    let test : Import → Bool = λ i. is_import_of k i.type in
    omega (
      arith,
      ap length (filter-append test done (i ∷ [])),
      length-append (filter test done) (filter test (i ∷ [])),
      count_one k i b is,
    )

module _ (k : ExternalKind) (defining : SectionKind) (number left index : ℕ) (rest others all : List Import) (i : Import) (s : SeeksImport k number left index rest all)
    (at : rest ≡ i ∷ others) where
  pub is_import : is_import_of k i.type ≡ true → left ≡ 0 → IsIndexed k defining all index kind.Import number
  is_import is none = inl (
    refl,
    record {
      import = i;
      stands = stands number rest others all i s.comes at;
      is_of_kind = is;
      before = omega (arith, ap (imported_count k) (first_are number rest all s.comes), s.passed, none);
    },
  )

  pub seeks_past : (next : ℕ) → next ≡ number + 1 → (others_left : ℕ) → others_left ≡ left - 1 → is_import_of k i.type ≡ true → ¬ (left ≡ 0)
      → SeeksImport k next others_left index others all
  seeks_past next is others_left less of some = record {
    comes = comes_more number rest others all i s.comes at next is;
    passed = omega (arith, count_more k s.comes.done i true of, s.passed, some, less);
  }

  pub seeks_other : (next : ℕ) → next ≡ number + 1 → (others_left : ℕ) → others_left ≡ left → is_import_of k i.type ≡ false
      → SeeksImport k next others_left index others all
  seeks_other next is others_left same of = record {
    comes = comes_more number rest others all i s.comes at next is;
    passed = omega (arith, count_more k s.comes.done i false of, s.passed, same);
  }

pub is_defined : (k : ExternalKind) (defining : SectionKind) (number left index : ℕ) (rest all : List Import) → SeeksImport k number left index rest all
    → rest ≡ [] → IsIndexed k defining all index defining left
is_defined k defining number left index rest all s none =
    let same : s.comes.done ≡ all = sym (append-nil s.comes.done) ∙ ap (λ (l : List Import). s.comes.done ++ l) (sym none) ∙ s.comes.whole in
    inr (refl, omega (arith, ap (imported_count k) same, s.passed))
