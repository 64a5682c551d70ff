-- What has references, as data over anything that they may be.
use Rattle.std.specs.Prelude.{List, length}
use Rattle.std.specs.Prelude as prelude
use Rattle.std.specs.List.{flat_map, AllZip}
use Rattle.std.proofs.Common.{◌≡◌, ◌∙◌, refl, sym, ap}
use Rattle.std.proofs.lemmas.List.{length-map}
use Rattle.type_spec.specs.ListLaws.{map-same, map-twice, flat_map-mapped, list-determined}

-- a reference that is omitted
abbrev pub erased : {R : Type 0} → R → Unit {0}
erased r = tt

-- equal frames, which have no references, and references that are related one by one
pub record AreAlike {F R S : Type 0} (same : R → S → Type 0) (f g : F) (rs : List R) (ss : List S) : Type 0 where
  pub frames : f ≡ g
  pub edges : AllZip same rs ss

-- what a concrete heap type holds is determined by its reference and by its data without the
-- reference
abbrev pub Tells : {H K R : Type 0} → (H → K) → (H → R) → Type 0
Tells {H = H} kind index = (a b : H) → kind a ≡ kind b → index a ≡ index b → a ≡ b

-- data over what a concrete heap type holds, and over references: each replaced, and all references
-- in order
pub record Shape (T : Type 0 → Type 0 → Type 0) : Type 1 where
  pub map : {H H' R R' : Type 0} → (H → H') → (R → R') → T H R → T H' R'
  pub edges : {H R : Type 0} → (H → R) → T H R → List R
  pub map_same : {H R : Type 0} (x : T H R) → map (λ (a : H). a) (λ (r : R). r) x ≡ x
  pub map_twice : {H H' H'' R R' R'' : Type 0} (h : H → H') (h' : H' → H'') (f : R → R') (f' : R' → R'') (x : T H R)
      → map h' f' (map h f x) ≡ map (λ a. h' (h a)) (λ r. f' (f r)) x
  pub edges_map : {H H' R R' : Type 0} (index : H → R) (index' : H' → R') (h : H → H') (f : R → R')
      → ((a : H) → index' (h a) ≡ f (index a)) → (x : T H R) → edges index' (map h f x) ≡ prelude.map f (edges index x)
  -- a value is determined by its frame, which has no references, and by its edges
  pub determined : {H K R : Type 0} (kind : H → K) (index : H → R) → Tells kind index → (x y : T H R)
      → map kind (erased {R = R}) x ≡ map kind (erased {R = R}) y → edges index x ≡ edges index y → x ≡ y

module _ {T : Type 0 → Type 0 → Type 0} (s : Shape T) where
  -- equal frames have equally many edges
  pub edge_count : {H K R : Type 0} (kind : H → K) (index : H → R) (x y : T H R)
      → s.map kind (erased {R = R}) x ≡ s.map kind (erased {R = R}) y → length (s.edges index x) ≡ length (s.edges index y)
  edge_count {H = H} {K = K} {R = R} kind index x y frames =
      let count : (z : T H R) → length (s.edges index z) ≡ length (s.edges (erased {R = K}) (s.map kind (erased {R = R}) z)) = λ z.
      sym (length-map (s.edges index z) erased)
      ∙ ap length (sym (s.edges_map index (erased {R = K}) kind (erased {R = R}) (λ a. refl) z)) in
      count x ∙ ap (λ z. length (s.edges (erased {R = K}) z)) frames ∙ sym (count y)

  -- lists of it
  abbrev pub listed : Shape (λ H R. List (T H R))
  listed = record {
    map = λ h f xs. prelude.map (s.map h f) xs;
    edges = λ index xs. flat_map (s.edges index) xs;
    map_same = λ {H} {R} xs. map-same (s.map (λ (a : H). a) (λ (r : R). r)) s.map_same xs;
    map_twice = λ h h' f f' xs.
        map-twice (s.map h f) (s.map h' f') (s.map (λ a. h' (h a)) (λ r. f' (f r))) (s.map_twice h h' f f') xs;
    edges_map = λ index index' h f each xs.
        flat_map-mapped (s.map h f) (s.edges index) (s.edges index') f (s.edges_map index index' h f each) xs;
    determined = λ {H} {K} {R} kind index tells xs ys frames all.
        list-determined (s.map kind (erased {R = R})) (s.edges index) (edge_count kind index) (s.determined kind index tells) xs ys frames all;
  }
