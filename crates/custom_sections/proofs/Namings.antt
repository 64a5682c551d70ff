-- Namings as they are read and told, and the bytes of a subsection.
use Rattle.std.proofs.Common.{◌≡◌, ℕ, List, [], ◌∷◌, ◌++◌, true, Option, Some, None, Ok, Err, Result, refl, sym, ap, subst, ◌∙◌, append_assoc, inl, inr}
use Rattle.std.specs.Prelude.{◌⊎◌, length}
use Rattle.std.specs.Result.{result_ok}
use Rattle.std.proofs.lemmas.List.{append-nil, nil_from_length}
use Rattle.std.proofs.lemmas.Bool.{eqb-true}
use Rattle.wasm_spec.specs.Parts.{Part, ◌>>=◌, gives, unsigned, first_byte, sized, counted_bytes}
use Rattle.form_reader.specs.Reading.{Fault}
use Rattle.form_reader.specs.ReadingNumbers.{unsigned_at, counted_bytes_at}
use Rattle.form_reader.specs.Agrees.{step_ok, ok_is}
use Rattle.form_reader.specs.NumberLaws.{unsigned_agrees, counted_bytes_agree}
use Rattle.custom_sections.specs.NameGrammar.{naming, local_naming}
use Rattle.custom_sections.specs.NameReading.{naming_at, naming_before, names_before, one_or_none, locals_before, locals_behind, of_function, is_filled, sized_subsection_at}
use Rattle.custom_sections.specs.CutNames.{tells_nothing, namings_told, cut_local_naming}
use Rattle.custom_sections.proofs.NameSpellings.{naming_agrees, naming_again, sized_again}
use Rattle.custom_sections.proofs.OnlyTold.{Only, only_all, only_made, Whole, Cut, front_only, cut_only, number_at, number_again, vector_only, vector_spelled}

-- ---- the names of indices

pub naming_step : (bytes : List ℕ) → Whole naming_before naming bytes ⊎ Cut naming_before tells_nothing bytes
naming_step bytes = by (naming_at bytes) refl where
  by : (r : Result ((ℕ × List ℕ) × List ℕ) Fault) → naming_at bytes ≡ r → Whole naming_before naming bytes ⊎ Cut naming_before tells_nothing bytes
  by (Ok x) e =
      let f = naming_agrees.found bytes x.0 x.1 e in
      inl (record { value = x.0; front = f.0; rest = x.1; parts = f.1; is = f.2; reads = ap one_or_none e })
  by (Err fault) e = inr (record { value = None; reads = ap one_or_none e; told = only_all (λ bytes. []) bytes })

pub namings_only : (bytes : List ℕ) → Only namings_told bytes (names_before bytes).0
namings_only bytes = vector_only naming_before naming tells_nothing naming_again naming_step bytes

abbrev One : Type 0
One = ℕ × List (ℕ × List ℕ)

abbrev Step : List ℕ → Type 0
Step bytes = Whole locals_before local_naming bytes ⊎ Cut locals_before cut_local_naming bytes

module _ (bytes front rest : List ℕ) (outer : ℕ) (parts : bytes ≡ front ++ rest) (is : (unsigned 32).spells front outer)
    (reads : locals_before bytes ≡ of_function outer (names_before rest)) where
  local_whole : (after : List ℕ) → (names_before rest).1 ≡ Some after → Whole locals_before local_naming bytes
  local_whole after e =
      let f = vector_spelled naming_before naming tells_nothing naming_again naming_step rest after e in
      let one : One = (outer, (names_before rest).0) in
      record {
        value = one;
        front = front ++ f.0;
        rest = after;
        parts = parts ∙ ap (λ (l : List ℕ). front ++ l) f.1 ∙ sym (append_assoc front f.0 after);
        is = record {
          value = outer;
          front = front;
          back = f.0;
          parts = refl;
          is_first = is;
          is_second =
              record { value = (names_before rest).0; front = f.0; back = []; parts = sym (append-nil f.0); is_first = f.2; is_second = (refl, refl) };
        };
        reads = reads ∙ ap (λ (o : Option (List ℕ)). let r : Option One × Option (List ℕ) = (Some one, o) in r) e;
      }

  local_cut : (names_before rest).1 ≡ None → Cut locals_before cut_local_naming bytes
  local_cut e =
      let one : One = (outer, (names_before rest).0) in
      record {
        value = Some one;
        reads = reads ∙ ap (λ (o : Option (List ℕ)). let r : Option One × Option (List ℕ) = (Some one, o) in r) e;
        told = front_only number_at (unsigned 32) number_again (λ outer. namings_told >>= λ names. gives ((outer, names) ∷ [])) tells_nothing
            bytes front rest outer (one ∷ []) parts is (only_made namings_told (λ names. (outer, names) ∷ []) rest (names_before rest).0 (namings_only rest));
      }

pub local_step : (bytes : List ℕ) → Step bytes
local_step bytes = by (unsigned_at 32 bytes) refl where
  after : (outer : ℕ × List ℕ) → unsigned_at 32 bytes ≡ Ok outer → (o : Option (List ℕ)) → (names_before outer.1).1 ≡ o → Step bytes
  after outer e (Some rest) l =
      let f = (unsigned_agrees 32).found bytes outer.0 outer.1 e in inl (local_whole bytes f.0 outer.1 outer.0 f.1 f.2 (ap locals_behind e) rest l)
  after outer e None l =
      let f = (unsigned_agrees 32).found bytes outer.0 outer.1 e in inr (local_cut bytes f.0 outer.1 outer.0 f.1 f.2 (ap locals_behind e) l)

  by : (r : Result (ℕ × List ℕ) Fault) → unsigned_at 32 bytes ≡ r → Step bytes
  by (Ok outer) e = after outer e (names_before outer.1).1 refl
  by (Err fault) e = inr (record {
    value = None;
    reads = ap locals_behind e;
    told = cut_only number_at (unsigned 32) number_again (λ outer. namings_told >>= λ names. gives ((outer, names) ∷ [])) tells_nothing
        bytes [] (ap result_ok e) (only_all (λ bytes. []) bytes);
  })

-- ---- all bytes of a subsection

pub filled_is : (o : Option (List ℕ)) → is_filled o ≡ true → o ≡ Some []
filled_is (Some rest) e = ap (λ (l : List ℕ). Some l) (nil_from_length rest (eqb-true _ _ e))
filled_is None e = absurd cc

-- bytes of which nothing is left
pub all_of : {A : Type 0} (g : Part A) (x : A) (bytes front : List ℕ) → bytes ≡ front ++ [] → g.spells front x → g.spells bytes x
all_of g x bytes front e s = subst (λ (l : List ℕ). g.spells l x) (sym (e ∙ append-nil front)) s

pub made_of : {A B : Type 0} (g : Part A) (f : A → B) (bytes : List ℕ) (x : A) → g.spells bytes x → (g >>= λ y. gives (f y)).spells bytes (f x)
made_of g f bytes x s = record { value = x; front = bytes; back = []; parts = sym (append-nil bytes); is_first = s; is_second = (refl, refl) }

-- ---- a subsection, by its id and its contents

abbrev pub Sized : Type 0
Sized = (ℕ × List ℕ) × List ℕ

-- an id, and contents that the part of the id spells
module _ {A : Type 0} (part : ℕ → Part A) where
  pub sized_front : (front : List ℕ) (x : A) (rest : List ℕ) → (first_byte (λ id. sized (part id))).spells front x
      → (id : ℕ) × (contents : List ℕ) × (sized_subsection_at (front ++ rest) ≡ Ok ((id, contents), rest)) × (part id).spells contents x
  sized_front [] x rest s = absurd s
  sized_front (id ∷ front) x rest t =
      let counted = counted_bytes_agree.again front t.back rest
      (record { value = t.value; front = t.front; back = t.back; parts = t.parts; is_first = t.is_first; is_second = (refl, t.is_second.0) }) in
      (id, t.back, sized_again id front t.back rest counted, t.is_second.1)

  pub sized_whole : (id : ℕ) (bytes contents : List ℕ) (x : A) → counted_bytes.spells bytes contents → (part id).spells contents x
      → (sized (part id)).spells bytes x
  sized_whole id bytes contents x t s = record {
    value = t.value;
    front = t.front;
    back = t.back;
    parts = t.parts;
    is_first = t.is_first;
    is_second = (ap length t.is_second.0 ∙ t.is_second.1, subst (λ (l : List ℕ). (part id).spells l x) (sym t.is_second.0) s);
  }

-- the bytes of a subsection that was read
pub sized_found : (bytes : List ℕ) (id : ℕ) (contents rest : List ℕ) → sized_subsection_at bytes ≡ Ok ((id, contents), rest)
    → (front : List ℕ) × (bytes ≡ id ∷ front ++ rest) × counted_bytes.spells front contents
unfolding sized_subsection_at
sized_found [] id contents rest e = absurd cc
sized_found (b ∷ bytes) id contents rest e =
    let wanted : Sized = ((id, contents), rest) in
    let s = step_ok (counted_bytes_at bytes) (λ x. Ok ((b, x.0), x.1)) wanted e in
    let found : Sized = ((b, s.0.0), s.0.1) in
    let same : found ≡ wanted = ok_is found wanted s.2 in
    let f = counted_bytes_agree.found bytes s.0.0 s.0.1 s.1 in
    subst (λ (y : Sized). (front : List ℕ) × (b ∷ bytes ≡ y.0.0 ∷ front ++ y.1) × counted_bytes.spells front y.0.1) same
    (f.0, ap (λ (l : List ℕ). b ∷ l) f.1, f.2)
