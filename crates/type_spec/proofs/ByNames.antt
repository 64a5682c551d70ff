-- Groups by numbers and kinds of what they name.
use Rattle.std.proofs.Common.{◌≡◌, ◌∙◌, true, false, ℕ, zero, suc, ◌-◌, ◌<◌, None, List, [], ◌∷◌, length, get_or, refl, sym, ap, arith}
use Rattle.std.specs.List.{AllZip, All}
use Rattle.std.proofs.lemmas.List.{get_or-map}
use Rattle.std.proofs.lemmas.List.Elements.{All-head, All-tail}
use Rattle.wasm_spec.specs.TypeData.{Composite, Func, Array, Struct, Cont, Exn, SubType, Group, map_composite, map_sub_type, map_group}
use Rattle.type_spec.specs.Shapes.{erased}
use Rattle.type_spec.specs.TypeShapes.{group_shape}
use Rattle.type_spec.specs.Names.{NameKind, Named, index_of, plainly, Alike, alike-mapped, mapped-alike}
use Rattle.type_spec.specs.Equality.{home, SameType}
use Rattle.type_spec.specs.Interned.{kind_of_type, kind_at}
use Rattle.type_spec.proofs.Equivalence.{type-groups}
use Rattle.type_spec.proofs.Homes.{joined, size, home-within, home-type}

module _ {R : Type 0} where
  -- what a position is named by
  abbrev pub name_by : (ℕ → NameKind) → (ℕ → R) → ℕ → Named R
  name_by kind number i = record { kind = kind i; index = number i }

  -- a group, each reference by the kind of what it names and by what is given for it
  abbrev pub by_names : (ℕ → NameKind) → (ℕ → R) → Group ℕ ℕ → Group (Named R) R
  by_names kind number g = map_group (name_by kind number) number g

  names-twice : (kind : ℕ → NameKind) (number : ℕ → R) (g : Group ℕ ℕ)
      → map_group (λ (n : Named R). n) (index_of {R = R}) (map_group (name_by kind number) (name_by kind number) g) ≡ by_names kind number g
  names-twice kind number g = group_shape.map_twice (name_by kind number) (λ (n : Named R). n) (name_by kind number) (index_of {R = R}) g

  -- without the kinds
  pub names-plain : (kind : ℕ → NameKind) (number : ℕ → R) (g : Group ℕ ℕ)
      → map_group (index_of {R = R}) (λ (r : R). r) (by_names kind number g) ≡ map_group number number g
  names-plain kind number g = group_shape.map_twice (name_by kind number) (index_of {R = R}) number (λ (r : R). r) g

  -- where the names are the same, the groups are
  pub names-same : (kind kind' : ℕ → NameKind) (number number' : ℕ → R) (g h : Group ℕ ℕ)
      → Alike (plainly group_shape) (λ r s. name_by kind number r ≡ name_by kind' number' s) g h → by_names kind number g ≡ by_names kind' number' h
  names-same kind kind' number number' g h alike =
      sym (names-twice kind number g)
      ∙ ap (map_group (λ (n : Named R). n) (index_of {R = R}))
      (alike-mapped (plainly group_shape) (name_by kind number) (name_by kind' number') g h alike)
      ∙ names-twice kind' number' h

  -- where the groups are the same, what is given for the references is
  pub same-names : (kind kind' : ℕ → NameKind) (number number' : ℕ → R) (g h : Group ℕ ℕ)
      → by_names kind number g ≡ by_names kind' number' h → Alike (plainly group_shape) (λ r s. number r ≡ number' s) g h
  same-names kind kind' number number' g h same =
      mapped-alike (plainly group_shape) number number' g h
      (sym (names-plain kind number g) ∙ ap (map_group (index_of {R = R}) (λ (r : R). r)) same ∙ names-plain kind' number' h)

-- ---- lists one by one, of what is known of their items

pub zip-known : {A B : Type 0} (P : A → Type 0) (Q : B → Type 0) (same same' : A → B → Type 0)
    → ((a : A) (b : B) → P a → Q b → same a b → same' a b) → (xs : List A) (ys : List B)
    → All P xs → All Q ys → AllZip same xs ys → AllZip same' xs ys
zip-known P Q same same' each [] [] p q all = tt
zip-known P Q same same' each [] (y ∷ ys) p q all = absurd all
zip-known P Q same same' each (x ∷ xs) [] p q all = absurd all
zip-known P Q same same' each (x ∷ xs) (y ∷ ys) p q all =
    (each x y (All-head P x xs p) (All-head Q y ys q) all.0, zip-known P Q same same' each xs ys (All-tail P x xs p) (All-tail Q y ys q) all.1)

pub zip-known-itself : {A : Type 0} (P : A → Type 0) (same : A → A → Type 0) → ((a : A) → P a → same a a)
    → (xs : List A) → All P xs → AllZip same xs xs
zip-known-itself P same each [] p = tt
zip-known-itself P same each (x ∷ xs) p = (each x (All-head P x xs p), zip-known-itself P same each xs (All-tail P x xs p))

-- ---- kinds

abbrev pub some_type : SubType ℕ ℕ
some_type = record { is_final = true; supertype = None; composite = record { inner = Struct []; shared = false } }

-- the kind of the member at a position
abbrev pub member_kind : {H R : Type 0} → Group H R → ℕ → SubType H R → NameKind
member_kind g p d = kind_of_type (get_or g p d).composite.inner

kind-erased : (c : Composite ℕ ℕ) → kind_of_type (map_composite erased erased c) ≡ kind_of_type c
kind-erased (Func f) = refl
kind-erased (Array f) = refl
kind-erased (Struct fs) = refl
kind-erased (Cont f) = refl
kind-erased (Exn e) = refl

frame-kind : (g : Group ℕ ℕ) (p : ℕ) → p < length g
    → member_kind (map_group erased erased g) p (map_sub_type erased erased some_type) ≡ member_kind g p some_type
frame-kind g p lt =
    ap (λ (t : SubType (Unit {0}) (Unit {0})). kind_of_type t.composite.inner)
    (get_or-map (map_sub_type erased erased) g p some_type (map_sub_type erased erased some_type) lt)
    ∙ kind-erased (get_or g p some_type).composite.inner

pub joined-kind : (gs : List (Group ℕ ℕ)) (i : ℕ) → i < size gs → kind_at gs i ≡ member_kind (joined gs) i some_type
joined-kind [] i lt = absurd (omega arith)
joined-kind ([] ∷ gs) i lt = joined-kind gs i lt
joined-kind ((t ∷ ts) ∷ gs) zero lt = refl
joined-kind ((t ∷ ts) ∷ gs) (suc i) lt = joined-kind (ts ∷ gs) i (omega arith)

pub home-kind : (gs : List (Group ℕ ℕ)) (i : ℕ) → i < size gs
    → kind_at gs i ≡ member_kind (map_group erased erased (home gs i).members) (i - (home gs i).start) (map_sub_type erased erased some_type)
home-kind gs i lt =
    let w = home-within gs i lt in
    joined-kind gs i lt ∙ ap (λ (t : SubType ℕ ℕ). kind_of_type t.composite.inner) (sym (home-type gs i some_type lt))
    ∙ sym (frame-kind (home gs i).members (i - (home gs i).start) (omega (arith, w.from, w.to)))

-- equal types are of one kind
pub same-kind : (ms ns : List (Group ℕ ℕ)) (i j : ℕ) → i < size ms → j < size ns → SameType ms ns i j → kind_at ms i ≡ kind_at ns j
same-kind ms ns i j h k same =
    home-kind ms i h
    ∙ (λ t. member_kind ((type-groups ms ns i j same).frames t) (same.0 t) (map_sub_type erased erased some_type))
    ∙ sym (home-kind ns j k)
