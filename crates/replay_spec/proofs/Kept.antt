-- A plan without images, that keeps every segment to be written: it leaves what the segments leave.
use Rattle.std.proofs.Common.{◌≡◌, ℕ, ◌+◌, List, [], ◌∷◌, ◌++◌, length, map, refl, sym, ◌∙◌, arith, append_assoc, Some}
use Rattle.std.proofs.lemmas.List.{length_push}
use Rattle.std.specs.Prelude.{slice_get}
use Rattle.std.specs.List.{filter_map}
use Rattle.wasm_spec.specs.Module.{Expression}
use Rattle.replay_spec.specs.Phases.{Phase, SamePhase}
use Rattle.replay_spec.specs.Values.{offset_over}
use Rattle.replay_spec.specs.Data.{ActiveSegment, piece_of, segments_phase}
use Rattle.replay_spec.specs.Plan.{MemoryPlan, runtime_bytes, left_to_write, planned_piece, kept_segments, planned_from, AgreesOver}

abbrev pub bytes_of_all : List ActiveSegment → List (List ℕ)
bytes_of_all active = map (λ s. s.bytes) active

get-middle : {X : Type 0} (before after : List X) (x : X) → slice_get (before ++ x ∷ after) (length before) ≡ Some x
get-middle [] after x = refl
get-middle (b ∷ before) after x = get-middle before after x

module _ (plan : MemoryPlan) where
  -- the bytes of a segment are the runtime data of its index
  pub bytes-at : (before after : List (List ℕ)) (bytes : List ℕ) (n : ℕ) → n ≡ length before → plan.runtime ≡ before ++ bytes ∷ after
      → runtime_bytes plan n ≡ bytes
  bytes-at before after bytes n at is = rw (is, at, get-middle before after bytes) refl

  -- the runtime data before the next segment
  pub next-runtime : (before after : List (List ℕ)) (bytes : List ℕ) → plan.runtime ≡ before ++ bytes ∷ after
      → plan.runtime ≡ (before ++ bytes ∷ []) ++ after
  next-runtime before after bytes is = is ∙ sym (append_assoc before (bytes ∷ []) after)

  -- what is kept are the segments
  kept : (active : List ActiveSegment) (before after : List (List ℕ)) (n : ℕ) → n ≡ length before
      → plan.runtime ≡ before ++ (bytes_of_all active ++ after)
      → filter_map (λ s. left_to_write plan s.offset s.memory s.index) (planned_from n active) ≡ active
  kept [] before after n at is = refl
  kept (s ∷ ss) before after n at is = grind (arith, bytes-at, length_push, next-runtime, (kept ss (before ++ s.bytes ∷ []) after (n + 1) (omega (arith, length_push before s.bytes)) (next-runtime before (bytes_of_all ss ++ after) s.bytes is)))

  -- the pieces of all entries are those of the segments
  pub pieces : (place_of : Expression → ℕ) (active : List ActiveSegment) (before after : List (List ℕ)) (n : ℕ) → n ≡ length before
      → plan.runtime ≡ before ++ (bytes_of_all active ++ after)
      → map (planned_piece place_of plan) (planned_from n active) ≡ map (piece_of place_of) active
  pieces place_of [] before after n at is = refl
  pieces place_of (s ∷ ss) before after n at is = grind (arith, bytes-at, length_push, next-runtime, (pieces place_of ss (before ++ s.bytes ∷ []) after (n + 1) (omega (arith, length_push before s.bytes)) (next-runtime before (bytes_of_all ss ++ after) s.bytes is)))

same_as_itself : {A : Type 0} (phase : Phase A) → SamePhase phase phase
same_as_itself phase = record { sizes = λ object. refl; trap = refl; places = λ object place within. refl }

-- what a plan without images keeps to be written
pub record KeepsAll (defined : List ℕ) (active : List ActiveSegment) (plan : MemoryPlan) : Type 0 where
  pub sizes : plan.sizes ≡ defined
  pub no_images : plan.images ≡ []
  pub segments : plan.segments ≡ planned_from 0 active
  pub passive : List (List ℕ)
  pub runtime : plan.runtime ≡ bytes_of_all active ++ passive

pub kept_segments-all : (defined : List ℕ) (active : List ActiveSegment) (plan : MemoryPlan) → KeepsAll defined active plan
    → kept_segments plan ≡ active
kept_segments-all defined active plan h = rw h.segments (kept plan active [] h.passive 0 refl h.runtime)

pub AgreesOver-kept : (imports : ℕ) (defined : List ℕ) (active : List ActiveSegment) (plan : MemoryPlan) → KeepsAll defined active plan
    → AgreesOver imports defined active plan
AgreesOver-kept imports defined active plan h =
    let all : kept_segments plan ≡ active = kept_segments-all defined active plan h in
    let listed : (place_of : Expression → ℕ) → map (planned_piece place_of plan) plan.segments ≡ map (piece_of place_of) active =
    λ place_of. rw h.segments (pieces plan place_of active [] h.passive 0 refl h.runtime) in
    record {
      by_map = λ globals fields imported count.
          rw (h.sizes, h.no_images, all) (same_as_itself (segments_phase (offset_over globals fields) imported defined active));
      by_list = λ globals fields imported count.
          let entries = listed (offset_over globals fields) in
          rw (h.sizes, entries) (same_as_itself (segments_phase (offset_over globals fields) imported defined active));
    }
