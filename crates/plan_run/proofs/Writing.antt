-- Objects to which pieces are written in order.
use Rattle.std.proofs.Common.{◌≡◌, ℕ, suc, ◌+◌, ◌-◌, ◌<◌, ◌≤◌, true, List, ◌∷◌, ◌++◌, length, set, take, drop, Some, arith}
use Rattle.std.specs.Prelude.{slice_get, unwrap_or}
use Rattle.std.proofs.lemmas.Bool.{cases_lt, le-leb, lt-leb, eq-eqb, cond-false}
use Rattle.std.proofs.lemmas.List.{length-append, length-take, length-drop}
use Rattle.std.proofs.lemmas.Option.{slice_get-get_or, slice_get_within}
use Rattle.replay_spec.specs.Phases.{Piece, Phase, item_at, last_item, fits, before_trap, trap, trap_of, content_of}
use Rattle.replay_spec.proofs.Covering.{item-cover}
use Rattle.paged_memory.specs.Writing.{written}
use Rattle.plan_run.specs.Lays.{Lays, Hold}
use Rattle.plan_run.proofs.Lists.{get-set-same, get-set-other, get-append-low, get-append-high, get-take, get-drop}

-- ---- what is written

pub length-written : {A : Type 0} (at : ℕ) (items old : List A) → at + length items ≤ length old → length (written at items old) ≡ length old
length-written at items old l = omega (arith, length-append (take at old) (items ++ drop (at + length items) old), length-append items (drop (at + length items) old), length-take at old, length-drop (at + length items) old)

module _ {A : Type 0} (at : ℕ) (items old : List A) (l : at + length items ≤ length old) where
  front : length (take at old) ≡ at
  front = omega (arith, length-take at old)

  pub written-before : (place : ℕ) → place < at → slice_get (written at items old) place ≡ slice_get old place
  written-before place low = grind (arith, front, get-append-low, get-take)

  pub written-in : (k : ℕ) → k < length items → slice_get (written at items old) (at + k) ≡ slice_get items k
  written-in k low = grind (arith, get-append-high, get-append-low, front)

  pub written-behind : (k : ℕ) → slice_get (written at items old) (at + length items + k) ≡ slice_get old (at + length items + k)
  written-behind k = grind (arith, front, get-append-high, get-drop)

-- at each position of an object is the item of the piece that is written to it, or what was there
-- before
pub written-item : {A : Type 0} (i place : ℕ) (p : Piece A) (old : List A) (d : A) → p.object ≡ i → p.offset + length p.items ≤ length old → slice_get old place ≡ Some d
    → slice_get (written p.offset p.items old) place ≡ Some (unwrap_or (item_at i place p) d)
written-item i place p old d on l is =
    let before = cases_lt place p.offset in
    let behind = cases_lt place (p.offset + length p.items) in
    let inside = written-in p.offset p.items old l (place - p.offset) in
    let after = written-behind p.offset p.items old l (place - (p.offset + length p.items)) in
    grind (arith, item-cover, written-before, eq-eqb p.object i on, le-leb p.offset place, slice_get-get_or p.items (place - p.offset) d)

-- ---- objects

-- while pieces are written: the objects hold items over which those that remain leave what the
-- complete phase leaves
pub record IsWriting {A : Type 0} (phase : Phase A) (rest : List (Piece A)) (objects : List (List A)) : Type 0 where
  pub item : ℕ → ℕ → A
  pub hold : Hold phase.sizes item objects
  pub content : (i place : ℕ) → last_item i place (item i place) (before_trap phase.sizes rest) ≡ content_of phase i place
  pub trap : trap phase.sizes rest ≡ trap_of phase

module _ {A : Type 0} (phase : Phase A) (objects : List (List A)) where
  module _ (p : Piece A) (rest : List (Piece A)) (w : IsWriting phase (p ∷ rest) objects) where
    -- a piece that fits is written
    pub next-written : (object : List A) → slice_get objects p.object ≡ Some object → p.offset + length p.items ≤ length object
        → IsWriting phase rest (set objects p.object (written p.offset p.items object))
    next-written object at l =
        let size = w.hold.sizes p.object object at in
        let low = slice_get_within objects p.object object at in
        let fit : fits phase.sizes p ≡ true = le-leb (p.offset + length p.items) (phase.sizes p.object) (omega arith) in
        let new : List A = written p.offset p.items object in
        record {
          item = λ i place. unwrap_or (item_at i place p) (w.item i place);
          hold = grind (arith, get-set-same, length-written, get-set-other, written-item, item-cover);
          content = λ i place. grind (arith, fit, w.content i place);
          trap = grind (arith, fit, w.trap);
        }

    -- or it does not fit
    pub next-traps : (object : List A) → slice_get objects p.object ≡ Some object → length object < p.offset + length p.items
        → Lays phase (length objects) objects (Some (suc (length rest)))
    next-traps object at l = grind (arith, lt-leb, cond-false)
