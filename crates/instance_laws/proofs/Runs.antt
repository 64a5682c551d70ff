-- What a run of segments leaves.
use Rattle.std.proofs.Common.{◌≡◌, ◌∙◌, ℕ, suc, ◌-◌, ◌<◌, ◌⊎◌, Bool, true, false, List, [], ◌∷◌, None, refl, ap, sym, arith}
use Rattle.std.specs.Prelude.{slice_get, unwrap_or, nat_le, ◌==◌, ◌&&◌, if◌then◌else◌}
use Rattle.std.proofs.Math.Logic.{⊎_elim}
use Rattle.std.proofs.lemmas.Bool.{cases_order, cases_Bool, le-leb, lt-leb, eq-eqb, ne_eqb}
use Rattle.replay_spec.specs.Phases.{Piece, Phase, fits, item_at, last_item, before_trap, trap}
use Rattle.instance_laws.specs.Running.{Store, stored, initialised, run_pieces, LeavesPhase}

-- where a test chooses nothing either way, the value stays
nothing-chosen : {A : Type 0} (b : Bool) (d : A) → unwrap_or (if b then None else None) d ≡ d
nothing-chosen true d = refl
nothing-chosen false d = refl

-- the first item of some is at its position, and the others are one position further on
item-more : {A : Type 0} (x d : A) (xs : List A) (b : Bool) (offset p : ℕ)
    → unwrap_or (if b && nat_le (suc offset) p then slice_get xs (p - suc offset) else None) (if b && offset == p then x else d)
    ≡ unwrap_or (if b && nat_le offset p then slice_get (x ∷ xs) (p - offset) else None) d
item-more x d xs false offset p = refl
item-more x d xs true offset p = ⊎_elim
    (λ (e : offset ≡ p). rw (lt-leb (suc offset) p (omega arith), eq-eqb offset p e, le-leb offset p (omega arith), (let z : p - offset ≡ 0 = omega arith in z)) refl)
    (λ (other : (offset < p) ⊎ (p < offset)). ⊎_elim
    (λ (lt : offset < p). rw (le-leb (suc offset) p (omega arith), ne_eqb offset p (λ (e : offset ≡ p). omega arith), le-leb offset p (omega arith), (let z : p - offset ≡ suc (p - suc offset) = omega arith in z)) refl)
    (λ (gt : p < offset). rw (lt-leb (suc offset) p (omega arith), ne_eqb offset p (λ (e : offset ≡ p). omega arith), lt-leb offset p (omega arith)) refl)
    other)
    (cases_order offset p)

-- after a piece's items are stored, its item is at each position that it covers
initialised-at : {A : Type 0} (store : Store A) (object offset : ℕ) (items : List A) (o p : ℕ)
    → initialised store object offset items o p ≡ unwrap_or (item_at o p (record { object = object; offset = offset; items = items })) (store o p)
initialised-at store object offset [] o p = sym (nothing-chosen (object == o && nat_le offset p) (store o p))
initialised-at store object offset (x ∷ xs) o p =
    initialised-at (stored store object offset x) object (suc offset) xs o p ∙ item-more x (store o p) xs (object == o) offset p

-- a run leaves at each position the item of the last piece before the trap that covers it
run-places : {A : Type 0} (sizes : ℕ → ℕ) (store : Store A) (ps : List (Piece A)) (o p : ℕ)
    → (run_pieces sizes store ps).store o p ≡ last_item o p (store o p) (before_trap sizes ps)
run-places sizes store [] o p = refl
run-places sizes store (q ∷ ps) o p = ⊎_elim
    (λ (e : fits sizes q ≡ true). rw e (run-places sizes (initialised store q.object q.offset q.items) ps o p
    ∙ ap (λ d. last_item o p d (before_trap sizes ps)) (initialised-at store q.object q.offset q.items o p)))
    (λ (e : fits sizes q ≡ false). rw e refl)
    (cases_Bool (fits sizes q))

run-trap : {A : Type 0} (sizes : ℕ → ℕ) (store : Store A) (ps : List (Piece A)) → (run_pieces sizes store ps).trap ≡ trap sizes ps
run-trap sizes store [] = refl
run-trap sizes store (q ∷ ps) = ⊎_elim
    (λ (e : fits sizes q ≡ true). rw e (run-trap sizes (initialised store q.object q.offset q.items) ps))
    (λ (e : fits sizes q ≡ false). rw e refl)
    (cases_Bool (fits sizes q))

pub leaves : {A : Type 0} (phase : Phase A) → LeavesPhase phase
leaves phase = record {
  trap = run-trap phase.sizes phase.base phase.pieces;
  places = λ o p. run-places phase.sizes phase.base phase.pieces o p;
}
