use Rattle.std.proofs.Common.{◌∙◌, ◌++◌, List, ℕ, Option, length, map, ap, sym, append_assoc, arith, ◌≡◌, ◌+◌, ◌≤◌, ◌∷◌}
use Rattle.std.specs.Prelude.{slice_get}
use Rattle.std.specs.List.{flat_map}
use Rattle.std.specs.Option.{option_to_list, option_or}
use Rattle.std.specs.Vec.Iter.{into_iter_items}
use Rattle.std.proofs.lemmas.List.{length-map, length-append}
use Rattle.std.proofs.lemmas.List.Concat.{flat_map-append}
use Rattle.wasm_spec.specs.Module.{Body, bodies_of_section, Payload}
use Rattle.form_reader.specs.Views.{body_of}
use Rattle.form_reader.specs.Input.{sections_of_part}
use Rattle.form_reader.specs.declared.input.InputPart.{InputPart}
use Rattle.module_environ.specs.Translation.{code_places}
use Rattle.module_environ.proofs.code.take_bodies.Goals as goal

-- what the next part gives, and those after it
next-part : {A : Type 0} (f : Payload → List A) (left : List InputPart) (p : InputPart) (rest : List InputPart) → left ≡ p ∷ rest
    → flat_map f (flat_map sections_of_part left) ≡ flat_map f (sections_of_part p) ++ flat_map f (flat_map sections_of_part rest)
next-part f left p rest at = rw at (flat_map-append f (sections_of_part p) (flat_map sections_of_part rest))

-- the first of some, where one may have been read before
first-more : (before here : Option ℕ) (xs ys : List ℕ) → option_to_list here ≡ xs
    → slice_get (option_to_list (option_or before here) ++ ys) 0 ≡ slice_get (option_to_list before ++ (xs ++ ys)) 0
first-more before here xs ys e = grind arith

-- there is capacity for some more of the bodies
bodies-few : {A B : Type 0} (view : A → B) (taken : List A) (here rest all : List B) → map view taken ++ (here ++ rest) ≡ all
    → length taken + length here ≤ length all
bodies-few {B = B} view taken here rest all whole = omega (arith, ap length whole, length-append {A = B}, length-map taken view)

pub add_bodies-requires : goal.add_bodies-requires
add_bodies-requires c =
    let rest = into_iter_items c.next.new.self in
    let taken = map (λ input. body_of input.body) c.loop-part.bodies in
    let whole = ap (λ (l : List Body). taken ++ l) (sym (next-part bodies_of_section _ c.in-Some.part rest c.in-Some.ensures.steps.0)) ∙ c.loop-part.invariant.bodies in
    omega (
      arith,
      bodies-few (λ input. body_of input.body) c.loop-part.bodies (flat_map bodies_of_section (sections_of_part c.in-Some.part)) _ _ whole,
      ap length c.bodies_in.ensures,
      length-map c.bodies_in.result.items body_of,
      c.requires.few.bodies,
    )

pub loop-part-preserved : goal.loop-part-preserved
loop-part-preserved c =
    let rest = into_iter_items c.next.new.self in
    let bodies_left = flat_map bodies_of_section (flat_map sections_of_part rest) in
    let places_left = flat_map code_places (flat_map sections_of_part rest) in
    let taken = map (λ input. body_of input.body) c.loop-part.bodies in
    let at = c.in-Some.ensures.steps.0 in
    record {
      bodies = ap (λ (l : List Body). l ++ bodies_left) (c.in_ok-add_bodies.ensures ∙ ap (λ (l : List Body). taken ++ l) c.bodies_in.ensures)
          ∙ append_assoc taken (flat_map bodies_of_section (sections_of_part c.in-Some.part)) bodies_left
          ∙ ap (λ (l : List Body). taken ++ l) (sym (next-part bodies_of_section _ c.in-Some.part rest at))
          ∙ c.loop-part.invariant.bodies;
      place = ap (λ (o : Option ℕ). slice_get (option_to_list o ++ places_left) 0) c.or-place.ensures
          ∙ first-more c.loop-part.place c.code_place.result (flat_map code_places (sections_of_part c.in-Some.part)) places_left c.code_place.ensures
          ∙ ap (λ (l : List ℕ). slice_get (option_to_list c.loop-part.place ++ l) 0) (sym (next-part code_places _ c.in-Some.part rest at))
          ∙ c.loop-part.invariant.place;
    }
