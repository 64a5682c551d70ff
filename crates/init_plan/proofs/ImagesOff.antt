-- Where images are off, every segment is kept.
use Rattle.std.proofs.Common.{◌≡◌, ℕ, ◌≤◌, false, List, [], ◌++◌, length, map, sum_by, None, inr, refl, sym, ◌∙◌}
use Rattle.std.proofs.lemmas.Bool.{false≢true}
use Rattle.replay_spec.specs.Data.{ActiveSegment}
use Rattle.replay_spec.specs.Plan.{MemoryPlan, planned_from}
use Rattle.replay_spec.specs.Images.{ImageOptions, ImageMemory, size_of, IsStatic, IsMemoryPlan}

module _ (options : ImageOptions) (imports : ℕ) (memories : List ImageMemory) (active : List ActiveSegment) (passive : List (List ℕ)) (off : options.enabled ≡ false) where
  pub not_static : IsStatic options imports memories active → ⊥
  not_static h = false≢true (sym off ∙ h.enabled)

  -- a size that the runtime data of every plan reach is reached by the data of the segments
  pub too_many : (n : ℕ) → ((plan : MemoryPlan) → IsMemoryPlan options imports memories active passive plan → n ≤ sum_by length plan.runtime)
      → n ≤ sum_by length (map (λ s. s.bytes) active ++ passive)
  too_many n each =
      let plan : MemoryPlan = record {
        sizes = map size_of memories;
        images = [];
        segments = planned_from 0 active;
        runtime = map (λ s. s.bytes) active ++ passive;
        passive = λ index. None;
      } in
      each plan (record { sizes = refl; segments = inr (record { not_static = not_static; in_map = refl; in_list = refl; runtime = refl }) })
