-- The sections that are listed are parts of the input.
use Rattle.std.proofs.Common.{◌≡◌, ℕ, ◌+◌, ◌<◌, ◌≤◌, ◌^◌, List, [], ◌∷◌, ◌++◌, length, take, drop, Bool, true, false, ltb, refl, sym, ap, subst, ◌∙◌, append_assoc, arith, inl, inr}
use Rattle.std.specs.Prelude.{◌⊎◌, All, nat_eq}
use Rattle.std.specs.List.{starts_with}
use Rattle.std.proofs.lemmas.Bool.{ltb-true, ltb-false}
use Rattle.std.proofs.lemmas.Bool.Decides.{Decides-eqb}
use Rattle.std.proofs.lemmas.Slice.Eq.{starts_is}
use Rattle.std.proofs.lemmas.List.{drop_at, take_at, length-append}
use Rattle.std.proofs.lemmas.List.Elements.{All-nil, All-cons}
use Rattle.wasm_spec.specs.Grammar.{header}
use Rattle.refusal_place.specs.declared.section_list.SectionPlace.{SectionPlace}
use Rattle.refusal_place.specs.SectionList.{AreSections, HasName, IsSection, IsSectionList, name_of}
use Rattle.name_maps.specs.Told.{contents_of}

pub record IsPart (bytes : List ℕ) (p : SectionPlace) : Type 0 where
  pub within : p.contents + p.size ≤ length bytes
  pub long : length (contents_of bytes p) ≡ p.size
  pub named : HasName p.id (contents_of bytes p) (name_of p)

module _ (bytes before rest : List ℕ) (start : ℕ) (p : SectionPlace) (later : List ℕ) (parts : bytes ≡ before ++ rest) (starts : length before ≡ start)
    (s : IsSection start rest p later) where
  abbrev front : List ℕ
  front = before ++ (p.id ∷ s.number)

  parts_are : bytes ≡ front ++ (s.contents ++ later)
  parts_are = parts ∙ ap (λ (l : List ℕ). before ++ l) s.parts ∙ sym (append_assoc before (p.id ∷ s.number) (s.contents ++ later))

  front_long : length front ≡ p.contents
  front_long = omega (arith, length-append before (p.id ∷ s.number), s.places.1, starts)

  contents_are : contents_of bytes p ≡ s.contents
  contents_are =
      ap (take p.size) (ap (drop p.contents) parts_are ∙ drop_at front (s.contents ++ later) p.contents front_long)
      ∙ take_at s.contents later p.size (sym s.places.2)

  one_in : IsPart bytes p
  one_in = record {
    within = omega (arith, ap length parts_are, length-append front (s.contents ++ later), length-append s.contents later, front_long, s.places.2);
    long = ap length contents_are ∙ sym s.places.2;
    named = subst (λ (l : List ℕ). HasName p.id l (name_of p)) (sym contents_are) s.name_is;
  }

  abbrev next : List ℕ
  next = front ++ s.contents

  next_parts : bytes ≡ next ++ later
  next_parts = parts_are ∙ sym (append_assoc front s.contents later)

  next_long : length next ≡ p.contents + p.size
  next_long = omega (arith, length-append front s.contents, front_long, s.places.2)

are_in : (bytes before rest : List ℕ) (start : ℕ) (ps : List SectionPlace) → bytes ≡ before ++ rest → length before ≡ start → AreSections start rest ps
    → All (IsPart bytes) ps
are_in bytes before rest start [] parts starts none = All-nil (IsPart bytes)
are_in bytes before rest start (p ∷ ps) parts starts (later, s, more) =
    All-cons (IsPart bytes) p ps (one_in bytes before rest start p later parts starts s)
    (are_in bytes (next bytes before rest start p later parts starts s) later (p.contents + p.size) ps
    (next_parts bytes before rest start p later parts starts s) (next_long bytes before rest start p later parts starts s) more)

-- there is a header before a list of sections, or no section is listed
abbrev pub Headed : List ℕ → Type 0
Headed bytes = ((rest : List ℕ) × (bytes ≡ header ++ rest) × (length bytes < 2 ^ 30))
    ⊎ ((places : List SectionPlace) → IsSectionList bytes places → places ≡ [])

false_true : (t : Bool) → t ≡ false → t ≡ true → ⊥
false_true t f e = absurd cc

pub is_headed : (bytes : List ℕ) → Headed bytes
is_headed bytes = by (starts_with nat_eq bytes header) refl where
  test : (starts_with nat_eq bytes header ≡ true → bytes ≡ header ++ drop 8 bytes)
      × ((rest : List ℕ) → bytes ≡ header ++ rest → starts_with nat_eq bytes header ≡ true)
  test = starts_is Decides-eqb bytes header (starts_with nat_eq bytes header) refl

  sized : bytes ≡ header ++ drop 8 bytes → (t : Bool) → ltb (length bytes) (2 ^ 30) ≡ t → Headed bytes
  sized e true short = inl (drop 8 bytes, e, ltb-true (length bytes) (2 ^ 30) short)
  sized e false long = inr (λ places is. is.too_long (ltb-false (length bytes) (2 ^ 30) long))

  by : (t : Bool) → starts_with nat_eq bytes header ≡ t → Headed bytes
  by true e = sized (test.0 e) (ltb (length bytes) (2 ^ 30)) refl
  by false e = inr (λ places is. is.no_header (λ rest parts. false_true (starts_with nat_eq bytes header) e (test.1 rest parts)))

pub listed_in : (bytes : List ℕ) (places : List SectionPlace) → IsSectionList bytes places → All (IsPart bytes) places
listed_in bytes places is = by (is_headed bytes) where
  by : Headed bytes → All (IsPart bytes) places
  by (inl h) = are_in bytes header h.0 8 places h.1 refl (is.sections h.0 h.1 h.2)
  by (inr none) = subst (All (IsPart bytes)) (sym (none places is)) (All-nil (IsPart bytes))
