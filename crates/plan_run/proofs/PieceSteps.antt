-- Pieces one by one.
use Rattle.std.proofs.Common.{◌≡◌, ℕ, suc, ◌+◌, ◌-◌, ◌<◌, ◌≤◌, true, false, List, [], ◌∷◌, length, map, get_or, set, drop, Some, arith}
use Rattle.std.specs.Prelude.{slice_get}
use Rattle.std.proofs.lemmas.Bool.{le-leb, lt-leb}
use Rattle.std.proofs.lemmas.List.{length-map, length-drop, map-set, drop_more}
use Rattle.std.proofs.lemmas.Option.{slice_get-map, slice_get-get_or}
use Rattle.replay_spec.specs.Phases.{Piece, Phase, fits}
use Rattle.paged_memory.specs.Writing.{written}
use Rattle.plan_run.specs.Lays.{Lays}
use Rattle.plan_run.specs.Segments.{WritesPiece}
use Rattle.plan_run.proofs.Writing.{IsWriting, next-written, next-traps}

-- ---- what remains of a list

left-count : {A B : Type 0} (f : A → B) (xs : List A) (i : ℕ) → i < length xs → length xs - i ≡ suc (length (map f (drop (i + 1) xs)))
left-count f xs i l = omega (arith, length-map (drop (i + 1) xs) f, length-drop (i + 1) xs)

-- ---- a piece is written to one of some objects, or not

module _ {A X : Type 0} (f : X → List A) (xs : List X) (k : ℕ) (x : X) (at : slice_get xs k ≡ Some x) (p : Piece A) (on : p.object ≡ k) where
  the-object : (object : List A) → slice_get (map f xs) p.object ≡ Some object → object ≡ f x
  the-object object is = grind (arith, slice_get-map f xs k)

  pub writes-true : (new : X) → p.offset + length p.items ≤ length (f x) → f new ≡ written p.offset p.items (f x) → WritesPiece p (map f xs) (map f (set xs k new)) true
  writes-true new l is object found = grind (arith, the-object, map-set)

-- of some pieces the next one is written, and those behind it remain; or it does not fit, and the
-- trap is how many remain
module _ {A X : Type 0} {phase : Phase A} {old : List (List A)} {p : X} (f : X → Piece A) (xs : List X) (i : ℕ) (d : X) (l : i < length xs) (is : get_or xs i d ≡ p)
    (new : List (List A)) (w : IsWriting phase (map f (drop i xs)) old) (within : (f p).object < length old) where
  abbrev object : List A
  object = get_or old (f p).object []

  found : slice_get old (f p).object ≡ Some object
  found = slice_get-get_or old (f p).object [] within

  writing : IsWriting phase (f p ∷ map f (drop (i + 1) xs)) old
  writing = rw (drop_more xs i d l, is) at w

  size : length object ≡ phase.sizes (f p).object
  size = writing.hold.sizes (f p).object object found

  pub item-fits : WritesPiece (f p) old new true → fits phase.sizes (f p) ≡ true
  item-fits writes = le-leb ((f p).offset + length (f p).items) (phase.sizes (f p).object) (omega (arith, size, (writes object found).0))

  pub item-passes : WritesPiece (f p) old new false → fits phase.sizes (f p) ≡ false
  item-passes writes = lt-leb ((f p).offset + length (f p).items) (phase.sizes (f p).object) (omega (arith, size, (writes object found).0))

  pub item-written : WritesPiece (f p) old new true → IsWriting phase (map f (drop (i + 1) xs)) new
  item-written writes = rw (writes object found).1 (next-written phase old (f p) (map f (drop (i + 1) xs)) writing object found (writes object found).0)

  pub item-traps : (n : ℕ) → length old ≡ n → WritesPiece (f p) old new false → Lays phase n new (Some (length xs - i))
  item-traps n many writes =
      let done = writes object found in
      rw (left-count f xs i l, done.1, ← many) (next-traps phase old (f p) (map f (drop (i + 1) xs)) writing object found done.0)
