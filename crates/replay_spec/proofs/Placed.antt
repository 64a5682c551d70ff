-- Segments that the static image rule places: they fit, and stay out of imported memories.
use Rattle.std.proofs.Common.{◌≡◌, ◌≢◌, ℕ, zero, suc, ◌+◌, ◌-◌, ◌<◌, ◌≤◌, Bool, true, List, [], ◌∷◌, length, map, All, Option, Some, ◌⊎◌, inl, inr, refl, sym, ◌∙◌, ap, arith}
use Rattle.std.specs.Prelude.{slice_get}
use Rattle.std.proofs.Math.Logic.{⊎_elim}
use Rattle.std.proofs.lemmas.Bool.{le-leb}
use Rattle.std.proofs.lemmas.List.{length-map, get_or-append_right}
use Rattle.std.proofs.lemmas.Option.{slice_get-map, get_or_from_slice_get, slice_get_past, same_Some, none-some}
use Rattle.std.specs.Option.{option_map}
use Rattle.wasm_spec.specs.Module.{Expression}
use Rattle.replay_spec.specs.Phases.{fits, last_item}
use Rattle.replay_spec.specs.Values.{Value, const_value, offset_over, offset_of}
use Rattle.replay_spec.specs.Data.{ActiveSegment, piece_of, memory_sizes, memory_base}
use Rattle.replay_spec.specs.Images.{ImageMemory, size_of, index_of_constant, IsPlaced, start_of, end_of, written_on}
use Rattle.replay_spec.proofs.Constant.{eval-const_value}
use Rattle.replay_spec.proofs.Replay.{AllFit}
use Rattle.replay_spec.proofs.Covering.{Covers, last-cover}

offset-constant : (globals : List Value) (fields : ℕ → ℕ) (wide : Bool) (e : Expression) (o : Option Value) (place : ℕ) → const_value e ≡ o
    → index_of_constant wide o ≡ Some place → offset_over globals fields e ≡ place
offset-constant globals fields wide e o place h1 h2 = grind (arith, none-some, eval-const_value)

pub all-tail : {X : Type 0} (P : X → Type 0) (x : X) (xs : List X) → All P (x ∷ xs) → All P xs
all-tail P x xs all k d l = all (suc k) d (omega arith)

pub all-head : {X : Type 0} (P : X → Type 0) (x : X) (xs : List X) → All P (x ∷ xs) → P x
all-head P x xs all = all 0 x (omega arith)

-- the size of a defined memory
pub sizes-defined : (imported : List (List ℕ)) (memories : List ImageMemory) (m : ℕ) (memory : ImageMemory) → length imported ≤ m
    → slice_get memories (m - length imported) ≡ Some memory → memory_sizes imported (map size_of memories) m ≡ size_of memory
sizes-defined imported memories m memory defined at = grind (arith, (get_or-append_right (map length imported) (map size_of memories) (length imported) m 0 (length-map imported length) defined), (length-map imported length), (get_or_from_slice_get (map size_of memories) (m - length imported) (size_of memory) 0 (slice_get-map size_of memories (m - length imported) ∙ ap (option_map size_of) at)), (slice_get-map size_of memories (m - length imported)))

-- a defined memory holds zeros at first
pub base-defined : (imported : List (List ℕ)) (m place : ℕ) → length imported ≤ m → memory_base imported m place ≡ 0
base-defined imported m place defined = let e = slice_get_past imported m defined in rw e refl

module _ (imports : ℕ) (memories : List ImageMemory) where
  place-over : (globals : List Value) (fields : ℕ → ℕ) (s : ActiveSegment) (p : IsPlaced imports memories s) → offset_over globals fields s.offset ≡ p.place
  place-over globals fields s p = offset-constant globals fields p.memory.wide s.offset (const_value s.offset) p.place refl p.constant

  pub start-placed : (s : ActiveSegment) (p : IsPlaced imports memories s) → start_of s ≡ p.place
  start-placed s p = place-over [] (λ t. 0) s p

  -- what placed segments write is the same over any globals
  pub pieces-over : (globals : List Value) (fields : ℕ → ℕ) (active : List ActiveSegment) → All (IsPlaced imports memories) active
      → map (piece_of (offset_over globals fields)) active ≡ map (piece_of offset_of) active
  pieces-over globals fields [] all = refl
  pieces-over globals fields (s ∷ ss) all =
      let p = all-head (IsPlaced imports memories) s ss all in
      let here : offset_over globals fields s.offset ≡ offset_of s.offset = place-over globals fields s p ∙ sym (start-placed s p) in
      let more = pieces-over globals fields ss (all-tail (IsPlaced imports memories) s ss all) in
      rw (here, more) refl

  pub fits-placed : (imported : List (List ℕ)) (s : ActiveSegment) → length imported ≡ imports → IsPlaced imports memories s
      → fits (memory_sizes imported (map size_of memories)) (piece_of offset_of s) ≡ true
  fits-placed imported s count p = grind (arith, (start-placed s p), (sizes-defined imported memories s.memory p.memory), (le-leb (start_of s + length s.bytes) (memory_sizes imported (map size_of memories) s.memory)))

  pub fit-placed : (imported : List (List ℕ)) (active : List ActiveSegment) → length imported ≡ imports → All (IsPlaced imports memories) active
      → AllFit (memory_sizes imported (map size_of memories)) (map (piece_of offset_of) active)
  fit-placed imported [] count all = tt
  fit-placed imported (s ∷ ss) count all = grind (arith, fits-placed, all-head, all-tail, (fit-placed imported ss count (all-tail (IsPlaced imports memories) s ss all)))

-- a segment of a list covers an offset
pub record CoversOn (active : List ActiveSegment) (memory place : ℕ) : Type 0 where
  pub index : ℕ
  pub segment : ActiveSegment
  pub is_segment : slice_get active index ≡ Some segment
  pub on : segment.memory ≡ memory
  pub from : start_of segment ≤ place
  pub upto : place < end_of segment

from-piece : (active : List ActiveSegment) (m place : ℕ) → Covers m place (map (piece_of offset_of) active) → CoversOn active m place
from-piece active m place c = grind (arith, slice_get-map, none-some, same_Some)

pub last-covered : (active : List ActiveSegment) (m place d : ℕ) → (last_item m place d (map (piece_of offset_of) active) ≡ d) ⊎ CoversOn active m place
last-covered active m place d = ⊎_elim inl (λ c. inr (from-piece active m place c)) (last-cover m place d (map (piece_of offset_of) active))

-- a byte that is not zero is covered
pub covers-nonzero : (active : List ActiveSegment) (m place : ℕ) → written_on active m place ≢ 0 → CoversOn active m place
covers-nonzero active m place ne = ⊎_elim (λ e. absurd (ne e)) (λ c. c) (last-covered active m place 0)

pub all-at : {X : Type 0} (P : X → Type 0) (xs : List X) (i : ℕ) (x : X) → All P xs → slice_get xs i ≡ Some x → P x
all-at P [] i x all h = absurd (none-some x h)
all-at P (y ∷ ys) zero x all h = let e = same_Some y x h in rw (← e) (all-head P y ys all)
all-at P (y ∷ ys) (suc i) x all h = all-at P ys i x (all-tail P y ys all) h
