-- One section: its id, its size and its contents.
use Rattle.std.proofs.Common.{◌≡◌, ℕ, ◌+◌, ◌-◌, ◌<◌, ◌≤◌, List, ◌∷◌, ◌++◌, length, take, drop, Ok, Err, sym, ap, subst, ◌∙◌, arith}
use Rattle.std.specs.List.{slice_range}
use Rattle.std.specs.Option.{option_map}
use Rattle.std.proofs.lemmas.List.{length-append, length-take, take-append-drop}
use Rattle.wasm_spec.specs.Numbers.{SpellsUnsigned}
use Rattle.form_reader.specs.Reading.{Bad}
use Rattle.form_reader.specs.ReadingNumbers.{unsigned_at}
use Rattle.form_reader.specs.Agrees.{ok_is}
use Rattle.form_reader.specs.NumberLaws.{unsigned_agrees}
use Rattle.refusal_place.specs.declared.section_list.SectionPlace.{SectionPlace}
use Rattle.refusal_place.specs.SectionList.{HasName, HasNoSection, IsSection}
use Rattle.refusal_place.proofs.AfterId.{no_number}
use Rattle.refusal_place.proofs.Placed.{after_in, front_is, id_in}

-- what follows the first byte
after_first : (b c : ℕ) (xs ys : List ℕ) → b ∷ xs ≡ c ∷ ys → xs ≡ ys
after_first b c xs ys e = ap (drop 1) e

pub range_front : (n : ℕ) (l : List ℕ) → slice_range l 0 n ≡ take n l
range_front n l = let e : n - 0 ≡ n = omega arith in ap (λ (m : ℕ). take m l) e

pub pair_is : (x y : ℕ × List ℕ) → x ≡ y → (x.0 ≡ y.0) × (x.1 ≡ y.1)
pair_is x y e = (ap (λ (q : ℕ × List ℕ). q.0) e, ap (λ (q : ℕ × List ℕ). q.1) e)

-- a size is read as it is spelled
pub size_again : (number contents later : List ℕ) → SpellsUnsigned 32 number (length contents)
    → unsigned_at 32 (number ++ (contents ++ later)) ≡ Ok (length contents, contents ++ later)
size_again number contents later spells = (unsigned_agrees 32).again number (length contents) (contents ++ later) spells

module _ (rest : List ℕ) (some : 1 ≤ length rest) where
  sized_is : (id : ℕ) (sized : List ℕ) → rest ≡ id ∷ sized → after_in rest ≡ sized
  sized_is id sized parts = after_first (id_in rest) id (after_in rest) sized (sym (front_is rest some) ∙ parts)

  pub no_size : unsigned_at 32 (after_in rest) ≡ Err Bad → HasNoSection rest
  no_size e = λ id number contents later parts size.
      no_number (after_in rest) Bad e number (contents ++ later) (length contents) (sized_is id (number ++ (contents ++ later)) parts) size

  module _ (size : ℕ) (left : List ℕ) (read : unsigned_at 32 (after_in rest) ≡ Ok (size, left)) where
    pub number_length : length left ≤ length (after_in rest)
    number_length = let n = (unsigned_agrees 32).found (after_in rest) size left read in omega (arith, ap length n.1, length-append n.0 left)

    read_as : (number contents later : List ℕ) → after_in rest ≡ number ++ (contents ++ later) → SpellsUnsigned 32 number (length contents)
        → (size ≡ length contents) × (left ≡ contents ++ later)
    read_as number contents later parts spells =
        pair_is (size, left) (length contents, contents ++ later)
        (ok_is (size, left) (length contents, contents ++ later)
        (sym read ∙ ap (unsigned_at 32) parts ∙ size_again number contents later spells))

    pub is_cut : length left < size → HasNoSection rest
    is_cut short id number contents later parts spells =
        let same = read_as number contents later (sized_is id (number ++ (contents ++ later)) parts) spells in
        omega (arith, short, same.0, ap length same.1, length-append contents later)

    pub is_section : (start : ℕ) (p : SectionPlace) → size ≤ length left → p.id ≡ id_in rest → p.start ≡ start
        → p.contents ≡ start + 1 + (length (after_in rest) - length left) → p.size ≡ size
        → HasName p.id (take size left) (option_map (λ text. text.now) p.name) → IsSection start rest p (drop size left)
    is_section start p fits id starts contents counts named =
        let n = (unsigned_agrees 32).found (after_in rest) size left read in
        let long : length (take size left) ≡ size = omega (arith, length-take size left, fits) in
        record {
          number = n.0;
          contents = take size left;
          parts = front_is rest some ∙ ap (λ (l : List ℕ). id_in rest ∷ l) (n.1 ∙ ap (λ (l : List ℕ). n.0 ++ l) (sym (take-append-drop size left)))
              ∙ ap (λ (b : ℕ). b ∷ (n.0 ++ (take size left ++ drop size left))) (sym id);
          size_is = subst (SpellsUnsigned 32 n.0) (sym long) n.2;
          places = (starts, omega (arith, contents, ap length n.1, length-append n.0 left), counts ∙ sym long);
          name_is = named;
        }
