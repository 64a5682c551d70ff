-- What names a type at a concrete heap type: a reference, and what kind of type it names. So there
-- is data over references alone.
use Rattle.std.specs.Prelude.{List}
use Rattle.std.specs.Prelude as prelude
use Rattle.std.specs.List.{AllZip}
use Rattle.std.proofs.Common.{◌≡◌, ◌∙◌, [], ◌∷◌, refl, sym, ap}
use Rattle.type_spec.specs.Shapes.{Shape, Tells, erased, AreAlike}

pub data NameKind : Type 0 where
  FuncName : NameKind
  ArrayName : NameKind
  StructName : NameKind
  ContName : NameKind
  ExnName : NameKind

pub record Named (R : Type 0) : Type 0 where
  pub kind : NameKind
  pub index : R

abbrev pub index_of : {R : Type 0} → Named R → R
index_of n = n.index

abbrev pub named : {R S : Type 0} → (R → S) → Named R → Named S
named f n = record { kind = n.kind; index = f n.index }

pub named-tells : {R : Type 0} → Tells (named (erased {R = R})) (index_of {R = R})
named-tells a b kinds indices =
    let kind : a.kind ≡ b.kind = ap (λ n. n.kind) kinds in
    λ i. record { kind = kind i; index = indices i }

-- data over references: each replaced, and all in order
pub record Traced (D : Type 0 → Type 0) : Type 1 where
  pub map : {R S : Type 0} → (R → S) → D R → D S
  pub edges : {R : Type 0} → D R → List R
  pub map_same : {R : Type 0} (x : D R) → map (λ (r : R). r) x ≡ x
  pub map_twice : {Q R S : Type 0} (f : Q → R) (g : R → S) (x : D Q) → map g (map f x) ≡ map (λ r. g (f r)) x
  pub edges_map : {R S : Type 0} (f : R → S) (x : D R) → edges (map f x) ≡ prelude.map f (edges x)
  pub determined : {R : Type 0} (x y : D R) → map (erased {R = R}) x ≡ map (erased {R = R}) y → edges x ≡ edges y → x ≡ y

abbrev pub by_name : {T : Type 0 → Type 0 → Type 0} → Shape T → Traced (λ R. T (Named R) R)
by_name s = record {
  map = λ f x. s.map (named f) f x;
  edges = λ x. s.edges index_of x;
  map_same = λ x. s.map_same x;
  map_twice = λ f g x. s.map_twice (named f) (named g) f g x;
  edges_map = λ f x. s.edges_map index_of index_of (named f) f (λ a. refl) x;
  determined = λ {R} x y frames all. s.determined (named (erased {R = R})) index_of named-tells x y frames all;
}

-- data in which a concrete heap type holds a reference alone
abbrev pub plainly : {T : Type 0 → Type 0 → Type 0} → Shape T → Traced (λ R. T R R)
plainly s = record {
  map = λ f x. s.map f f x;
  edges = λ {R} x. s.edges (λ (r : R). r) x;
  map_same = λ x. s.map_same x;
  map_twice = λ f g x. s.map_twice f g f g x;
  edges_map = λ {R} {S} f x. s.edges_map (λ (r : R). r) (λ (r : S). r) f f (λ a. refl) x;
  determined = λ {R} x y frames all. s.determined (erased {R = R}) (λ (r : R). r) (λ a b kinds indices. indices) x y frames all;
}

pub alone-determined : {R : Type 0} (x y : R) → x ∷ [] ≡ y ∷ [] → x ≡ y
alone-determined x y all = cc

abbrev pub reference_alone : Traced (λ R. R)
reference_alone = record {
  map = λ f x. f x;
  edges = λ x. x ∷ [];
  map_same = λ x. refl;
  map_twice = λ f g x. refl;
  edges_map = λ f x. refl;
  determined = λ x y frames all. alone-determined x y all;
}

module _ {D : Type 0 → Type 0} (s : Traced D) where
  -- all of a value but its references
  abbrev pub frame : {R : Type 0} → D R → D (Unit {0})
  frame {R = R} x = s.map (erased {R = R}) x

  -- two values that differ in their references alone, which are related one by one
  abbrev pub Alike : {R S : Type 0} → (R → S → Type 0) → D R → D S → Type 0
  Alike same x y = AreAlike same (frame x) (frame y) (s.edges x) (s.edges y)

  module _ {R S T : Type 0} (f : R → T) (g : S → T) where
    zip-mapped : (rs : List R) (ss : List S) → AllZip (λ r t. f r ≡ g t) rs ss → prelude.map f rs ≡ prelude.map g ss
    zip-mapped [] [] all = refl
    zip-mapped [] (t ∷ ss) all = absurd all
    zip-mapped (r ∷ rs) [] all = absurd all
    zip-mapped (r ∷ rs) (t ∷ ss) all = λ i. all.0 i ∷ zip-mapped rs ss all.1 i

    mapped-zip : (rs : List R) (ss : List S) → prelude.map f rs ≡ prelude.map g ss → AllZip (λ r t. f r ≡ g t) rs ss
    mapped-zip [] [] same = tt
    mapped-zip [] (t ∷ ss) same = cc
    mapped-zip (r ∷ rs) [] same = cc
    mapped-zip (r ∷ rs) (t ∷ ss) same =
        let whole : f r ∷ prelude.map f rs ≡ g t ∷ prelude.map g ss = same in
        let head : f r ≡ g t = cc in
        let tail : prelude.map f rs ≡ prelude.map g ss = cc in
        (head, mapped-zip rs ss tail)

    -- what two values are mapped to is equal exactly where they are alike by what their references
    -- are mapped to
    pub alike-mapped : (x : D R) (y : D S) → Alike (λ r t. f r ≡ g t) x y → s.map f x ≡ s.map g y
    alike-mapped x y alike =
        s.determined (s.map f x) (s.map g y) (s.map_twice f (erased {R = T}) x ∙ alike.frames ∙ sym (s.map_twice g (erased {R = T}) y))
        (s.edges_map f x ∙ zip-mapped (s.edges x) (s.edges y) alike.edges ∙ sym (s.edges_map g y))

    pub mapped-alike : (x : D R) (y : D S) → s.map f x ≡ s.map g y → Alike (λ r t. f r ≡ g t) x y
    mapped-alike x y same = record {
      frames = sym (s.map_twice f (erased {R = T}) x) ∙ ap (s.map (erased {R = T})) same ∙ s.map_twice g (erased {R = T}) y;
      edges = mapped-zip (s.edges x) (s.edges y) (sym (s.edges_map f x) ∙ ap (λ z. s.edges z) same ∙ s.edges_map g y);
    }

  pub zip-becomes : {R S : Type 0} (same same' : R → S → Type 0) → ((r : R) (t : S) → same r t → same' r t) → (rs : List R) (ss : List S)
      → AllZip same rs ss → AllZip same' rs ss
  zip-becomes same same' each [] [] all = tt
  zip-becomes same same' each [] (t ∷ ss) all = absurd all
  zip-becomes same same' each (r ∷ rs) [] all = absurd all
  zip-becomes same same' each (r ∷ rs) (t ∷ ss) all = (each r t all.0, zip-becomes same same' each rs ss all.1)

  -- where each reference becomes what a function gives, the value is mapped
  pub becomes-mapped : {R : Type 0} (becomes : R → R → Type 0) (f : R → R) → ((r r' : R) → becomes r r' → r' ≡ f r) → (x y : D R)
      → Alike becomes x y → y ≡ s.map f x
  becomes-mapped becomes f is x y alike =
      sym (alike-mapped f (λ r. r) x y (record {
        frames = alike.frames;
        edges = zip-becomes becomes (λ r r'. f r ≡ r') (λ r r' b. sym (is r r' b)) (s.edges x) (s.edges y) alike.edges;
      }) ∙ s.map_same y)
