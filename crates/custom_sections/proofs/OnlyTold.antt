-- Parts that tell one value of any bytes, and ways to combine them.
use Rattle.std.proofs.Common.{◌≡◌, ℕ, zero, suc, List, [], ◌∷◌, ◌++◌, Option, Some, None, Ok, Err, Result, refl, sym, ap, subst, ◌∙◌, append_assoc, inl, inr}
use Rattle.std.specs.Prelude.{◌⊎◌}
use Rattle.std.specs.Result.{result_ok}
use Rattle.std.proofs.lemmas.List.{append-nil}
use Rattle.wasm_spec.specs.Parts.{Part, ◌>>=◌, Joined, gives, unsigned, elements, vector, all_bytes_as}
use Rattle.form_reader.specs.Reading.{Fault}
use Rattle.form_reader.specs.ReadingNumbers.{unsigned_at}
use Rattle.form_reader.specs.NumberLaws.{unsigned_agrees}
use Rattle.custom_sections.specs.CutNames.{otherwise, tells_nothing, elements_told, vector_told}
use Rattle.custom_sections.specs.NameReading.{Partly, list_of, go_on, elements_before, counted_before, vector_before}
use Rattle.std.proofs.lemmas.Option.{none-some, same_Some}
use Rattle.custom_sections.proofs.NameSpellings.{made}

-- the bytes spell this value of the part and no other
pub record Only {A : Type 0} (part : Part A) (bytes : List ℕ) (x : A) : Type 0 where
  pub spelled : part.spells bytes x
  pub only : (y : A) → part.spells bytes y → y ≡ x

pub only_all : {A : Type 0} (f : List ℕ → A) (bytes : List ℕ) → Only (all_bytes_as f) bytes (f bytes)
only_all f bytes = record { spelled = refl; only = λ y s. s }

pub only_is : {A : Type 0} (part : Part A) (bytes : List ℕ) (x y : A) → x ≡ y → Only part bytes x → Only part bytes y
only_is part bytes x y e o = subst (Only part bytes) e o

-- a value of it is made
pub only_made : {A B : Type 0} (part : Part A) (f : A → B) (bytes : List ℕ) (x : A) → Only part bytes x → Only (part >>= λ y. gives (f y)) bytes (f x)
only_made part f bytes x o = record {
  spelled = record { value = x; front = bytes; back = []; parts = sym (append-nil bytes); is_first = o.spelled; is_second = (refl, refl) };
  only = λ y s. let m = made part f bytes y s in m.2 ∙ ap f (o.only m.0 m.1);
}

-- ---- a part at the front, and what follows it

pair_is : {A : Type 0} (x y : A) (b c : List ℕ) → ◌≡◌ {A = Option (A × List ℕ)} (Some (x, b)) (Some (y, c)) → (x ≡ y) × (b ≡ c)
pair_is {A} x y b c e =
    let same = same_Some {A = A × List ℕ} (x, b) (y, c) e in (ap (λ (q : A × List ℕ). q.0) same, ap (λ (q : A × List ℕ). q.1) same)

-- the part is read as it is spelled, whatever follows
module _ {A : Type 0} (read : List ℕ → Option (A × List ℕ)) (g : Part A)
    (again : (front : List ℕ) (x : A) (rest : List ℕ) → g.spells front x → read (front ++ rest) ≡ Some (x, rest)) where
  again_at : (bytes front rest : List ℕ) (x : A) → bytes ≡ front ++ rest → g.spells front x → read bytes ≡ Some (x, rest)
  again_at bytes front rest x e s = ap read e ∙ again front x rest s

  pub front_only : {B : Type 0} (h : A → Part B) (cut : Part B) (bytes front rest : List ℕ) (x : A) (y : B) → bytes ≡ front ++ rest → g.spells front x
      → Only (h x) rest y → Only (otherwise (g >>= h) cut) bytes y
  front_only {B} h cut bytes front rest x y e s o = record { spelled = inl whole; only = by } where
    whole : Joined g h bytes y
    whole = record { value = x; front = front; back = rest; parts = e; is_first = s; is_second = o.spelled }

    by : (z : B) → (otherwise (g >>= h) cut).spells bytes z → z ≡ y
    by z (inl t) =
        let same = pair_is t.value x t.back rest (sym (again_at bytes t.front t.back t.value t.parts t.is_first) ∙ again_at bytes front rest x e s) in
        let P : A → Type 0 = λ v. (h v).spells t.back z in
        let Q : List ℕ → Type 0 = λ l. (h x).spells l z in
        o.only z (subst Q same.1 (subst P same.0 t.is_second))
    by z (inr t) = absurd (t.0 y whole)

  pub cut_only : {B : Type 0} (h : A → Part B) (cut : Part B) (bytes : List ℕ) (y : B) → read bytes ≡ None → Only cut bytes y → Only (otherwise (g >>= h) cut) bytes y
  cut_only {B} h cut bytes y none o = record { spelled = inr (not, o.spelled); only = by } where
    not : (z : B) → Joined g h bytes z → ⊥
    not z t = none-some (t.value, t.back) (sym none ∙ again_at bytes t.front t.back t.value t.parts t.is_first)

    by : (z : B) → (otherwise (g >>= h) cut).spells bytes z → z ≡ y
    by z (inl t) = absurd (not z t)
    by z (inr t) = o.only z t.1

-- ---- numbers

abbrev pub number_at : List ℕ → Option (ℕ × List ℕ)
number_at bytes = result_ok (unsigned_at 32 bytes)

pub number_again : (front : List ℕ) (n : ℕ) (rest : List ℕ) → (unsigned 32).spells front n → number_at (front ++ rest) ≡ Some (n, rest)
number_again front n rest s = ap result_ok ((unsigned_agrees 32).again front n rest s)

-- ---- elements

bytes_are : (bytes rest : List ℕ) → Some bytes ≡ Some rest → bytes ≡ rest
bytes_are bytes rest e = cc

-- what is at the front of some bytes, with no fault or with one
pub record Whole {A : Type 0} (p : Partly A) (g : Part A) (bytes : List ℕ) : Type 0 where
  pub value : A
  pub front : List ℕ
  pub rest : List ℕ
  pub parts : bytes ≡ front ++ rest
  pub is : g.spells front value
  pub reads : p bytes ≡ (Some value, Some rest)

pub record Cut {A : Type 0} (p : Partly A) (cut : Part (List A)) (bytes : List ℕ) : Type 0 where
  pub value : Option A
  pub reads : p bytes ≡ (value, None)
  pub told : Only cut bytes (list_of value)

-- what was read with no fault
abbrev pub whole_of : {A : Type 0} → Option A × Option (List ℕ) → Option (A × List ℕ)
whole_of (Some x, Some rest) = Some (x, rest)
whole_of (Some x, None) = None
whole_of (None, rest) = None

-- what was read with no fault is spelled
abbrev Spelled : {A : Type 0} → Partly A → Part A → List ℕ → List ℕ → ℕ → List A × Option (List ℕ) → Type 0
Spelled p g bytes rest n read = read.1 ≡ Some rest → (front : List ℕ) × (bytes ≡ front ++ rest) × (elements g (suc n)).spells front read.0

pub no_whole : {A : Type 0} (o : Option A) → whole_of {A = A} (o, None) ≡ None
no_whole (Some x) = refl
no_whole None = refl

module _ {A : Type 0} (p : Partly A) (g : Part A) (cut : Part (List A))
    (again : (front : List ℕ) (x : A) (rest : List ℕ) → g.spells front x → p (front ++ rest) ≡ (Some x, Some rest))
    (step : (bytes : List ℕ) → Whole p g bytes ⊎ Cut p cut bytes) where
  pub whole_again : (front : List ℕ) (x : A) (rest : List ℕ) → g.spells front x → whole_of (p (front ++ rest)) ≡ Some (x, rest)
  whole_again front x rest s = ap whole_of (again front x rest s)

  pub elements_only : (n : ℕ) (bytes : List ℕ) → Only (elements_told g cut n) bytes (elements_before p n bytes).0
  unfolding elements_before
  elements_only zero bytes = only_all (λ bytes. []) bytes
  elements_only (suc n) bytes = by (elements_only n) (step bytes) where
    by : ((rest : List ℕ) → Only (elements_told g cut n) rest (elements_before p n rest).0) → Whole p g bytes ⊎ Cut p cut bytes
        → Only (elements_told g cut (suc n)) bytes (go_on (list_of (p bytes).0) (p bytes).1 (elements_before p n)).0
    by more (inl w) =
        let now = front_only (λ bytes. whole_of (p bytes)) g whole_again (λ x. elements_told g cut n >>= λ xs. gives (x ∷ xs)) cut bytes w.front w.rest w.value
        (w.value ∷ (elements_before p n w.rest).0) w.parts w.is
        (only_made (elements_told g cut n) (λ xs. w.value ∷ xs) w.rest (elements_before p n w.rest).0 (more w.rest)) in
        rw w.reads now
    by more (inr c) =
        let now = cut_only (λ bytes. whole_of (p bytes)) g whole_again (λ x. elements_told g cut n >>= λ xs. gives (x ∷ xs)) cut bytes (list_of c.value)
        (ap whole_of c.reads ∙ no_whole c.value) c.told in
        rw c.reads now

  -- what was read with no fault is spelled
  pub elements_spelled : (n : ℕ) (bytes rest : List ℕ) → (elements_before p n bytes).1 ≡ Some rest
      → (front : List ℕ) × (bytes ≡ front ++ rest) × (elements g n).spells front (elements_before p n bytes).0
  unfolding elements_before
  elements_spelled zero bytes rest e = ([], bytes_are bytes rest e, (refl, refl))
  elements_spelled (suc n) bytes rest e = by (elements_spelled n) (step bytes) e where
    by : ((back : List ℕ) → (rest : List ℕ) → (elements_before p n back).1 ≡ Some rest
        → (front : List ℕ) × (back ≡ front ++ rest) × (elements g n).spells front (elements_before p n back).0)
        → Whole p g bytes ⊎ Cut p cut bytes → Spelled p g bytes rest n (go_on (list_of (p bytes).0) (p bytes).1 (elements_before p n))
    by more (inl w) = rw w.reads (λ e.
        let m = more w.rest rest e in (
          w.front ++ m.0,
          w.parts ∙ ap (λ (l : List ℕ). w.front ++ l) m.1 ∙ sym (append_assoc w.front m.0 rest),
          record {
            value = w.value;
            front = w.front;
            back = m.0;
            parts = refl;
            is_first = w.is;
            is_second =
                record { value = (elements_before p n w.rest).0; front = m.0; back = []; parts = sym (append-nil m.0); is_first = m.2; is_second = (refl, refl) };
          },
        ))
    by more (inr c) = rw c.reads (λ e. absurd (none-some rest e))

  -- ---- a count, and elements

  pub vector_only : (bytes : List ℕ) → Only (vector_told g cut) bytes (vector_before p bytes).0
  unfolding vector_before
  vector_only bytes = by (unsigned_at 32 bytes) refl where
    by : (r : Result (ℕ × List ℕ) Fault) → unsigned_at 32 bytes ≡ r → Only (vector_told g cut) bytes (counted_before p r).0
    by (Ok count) e =
        let f = (unsigned_agrees 32).found bytes count.0 count.1 e in
        front_only number_at (unsigned 32) number_again (λ n. elements_told g cut n) tells_nothing bytes f.0 count.1 count.0 _ f.1 f.2 (elements_only count.0 count.1)
    by (Err fault) e = cut_only number_at (unsigned 32) number_again (λ n. elements_told g cut n) tells_nothing bytes [] (ap result_ok e) (only_all (λ bytes. []) bytes)

  pub vector_spelled : (bytes rest : List ℕ) → (vector_before p bytes).1 ≡ Some rest
      → (front : List ℕ) × (bytes ≡ front ++ rest) × (vector g).spells front (vector_before p bytes).0
  unfolding vector_before
  vector_spelled bytes rest e = by (unsigned_at 32 bytes) refl e where
    by : (r : Result (ℕ × List ℕ) Fault) → unsigned_at 32 bytes ≡ r → (counted_before p r).1 ≡ Some rest
        → (front : List ℕ) × (bytes ≡ front ++ rest) × (vector g).spells front (counted_before p r).0
    by (Ok count) e l =
        let f = (unsigned_agrees 32).found bytes count.0 count.1 e in
        let m = elements_spelled count.0 count.1 rest l in (
          f.0 ++ m.0,
          f.1 ∙ ap (λ (l : List ℕ). f.0 ++ l) m.1 ∙ sym (append_assoc f.0 m.0 rest),
          record { value = count.0; front = f.0; back = m.0; parts = refl; is_first = f.2; is_second = m.2 },
        )
    by (Err fault) e l = absurd (none-some rest l)
