-- The contents that the size of a section counts.
use Rattle.std.proofs.Common.{◌≡◌, ℕ, ◌+◌, ◌-◌, ◌<◌, ◌≤◌, List, ◌∷◌, ◌++◌, length, take, drop, Ok, Err, refl, sym, ap, subst, ◌∙◌, arith, inl, inr}
use Rattle.std.proofs.lemmas.List.{length-append, length-take, take-append-drop}
use Rattle.wasm_spec.specs.Numbers.{SpellsUnsigned}
use Rattle.form_reader.specs.Reading.{Bad}
use Rattle.form_reader.specs.ReadingNumbers.{unsigned_at}
use Rattle.form_reader.specs.NumberLaws.{unsigned_agrees}
use Rattle.refusal_place.specs.declared.kind.SectionKind.{SectionKind}
use Rattle.refusal_place.specs.Kinds.{id_of}
use Rattle.refusal_place.specs.Contents.{SectionHasNoContents}
use Rattle.refusal_place.specs.Sought.{AreTheContents}
use Rattle.refusal_place.proofs.ContentLaws.{no_number}

module _ (k : SectionKind) (sized : List ℕ) (size : ℕ) (rest : List ℕ) (read : unsigned_at 32 sized ≡ Ok (size, rest)) where
  abbrev number : (front : List ℕ) × (sized ≡ front ++ rest) × SpellsUnsigned 32 front size
  number = (unsigned_agrees 32).found sized size rest read

  pub number_length : length sized ≡ length number.0 + length rest
  number_length = omega (arith, ap length number.1, length-append number.0 rest)

  pub short : length rest < size → SectionHasNoContents k (id_of k ∷ sized)
  short l = inr (record {
    number = number.0;
    after = rest;
    size = size;
    parts = ap (λ (l : List ℕ). id_of k ∷ l) number.1;
    size_is = number.2;
    short = l;
  })

  module _ (fits : size ≤ length rest) where
    contents_long : length (take size rest) ≡ size
    contents_long = omega (arith, length-take size rest, fits)

    pub the_contents : AreTheContents k (id_of k ∷ sized) (take size rest) (1 + (length sized - length rest))
    the_contents = record {
      has = record {
        number = number.0;
        later = drop size rest;
        parts = ap (λ (l : List ℕ). id_of k ∷ l) (number.1 ∙ ap (λ (l : List ℕ). number.0 ++ l) (sym (take-append-drop size rest)));
        size_is = subst (SpellsUnsigned 32 number.0) (sym contents_long) number.2;
        offset_is = omega (arith, number_length);
      };
      within = omega (arith, number_length, contents_long, fits);
    }

pub no_size : (k : SectionKind) (sized : List ℕ) → unsigned_at 32 sized ≡ Err Bad → SectionHasNoContents k (id_of k ∷ sized)
no_size k sized e = inl (sized, refl, no_number sized e)
