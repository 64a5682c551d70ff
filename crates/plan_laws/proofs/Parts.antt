-- Two plans of the same memories hold the same but for where passive segments are found, and two of
-- the same tables keep the same.
use Rattle.std.proofs.Common.{◌≡◌, ℕ, Bool, List, map, inl, inr}
use Rattle.std.specs.Prelude.{◌⊎◌}
use Rattle.std.proofs.lemmas.List.{append_cancel_left}
use Rattle.replay_spec.specs.Data.{ActiveSegment}
use Rattle.replay_spec.specs.Elements.{DefinedTable, ActiveElements}
use Rattle.replay_spec.specs.Plan.{MemoryPlan}
use Rattle.replay_spec.specs.Images.{ImageOptions, ImageMemory, IsMemoryPlan, PlansImages, PlansSegments}
use Rattle.replay_spec.specs.Tables.{TablePlan, IsTablePlan}
use Rattle.replay_spec.proofs.One.{one-list}
use Rattle.replay_spec.proofs.Taken.{one-prefix}

pub record SameMemories (p q : MemoryPlan) : Type 0 where
  pub images : p.images ≡ q.images
  pub segments : p.segments ≡ q.segments
  pub runtime : p.runtime ≡ q.runtime

module _ (options : ImageOptions) (imports : ℕ) (memories : List ImageMemory) (active : List ActiveSegment) (passive : List (List ℕ)) (p q : MemoryPlan) where
  by-rule : PlansImages options imports memories active passive p ⊎ PlansSegments options imports memories active passive p
      → PlansImages options imports memories active passive q ⊎ PlansSegments options imports memories active passive q → SameMemories p q
  by-rule (inl x) (inl y) =
      let same : x.images ≡ y.images = one-list _ _ active x.images y.images x.are_images y.are_images in
      record { images = cc; segments = cc; runtime = cc }
  by-rule (inl x) (inr y) = absurd (y.not_static x.static)
  by-rule (inr x) (inl y) = absurd (x.not_static y.static)
  by-rule (inr x) (inr y) = record { images = cc; segments = cc; runtime = cc }

  pub same-memories : IsMemoryPlan options imports memories active passive p → IsMemoryPlan options imports memories active passive q → SameMemories p q
  same-memories a b = by-rule a.segments b.segments

pub record SameTables (s t : TablePlan) : Type 0 where
  pub segments : s.segments ≡ t.segments
  pub initials : map (λ x. x.initial) s.tables ≡ map (λ x. x.initial) t.tables

pub same-tables : (lazy : Bool) (imports : ℕ) (tables : List DefinedTable) (active : List ActiveElements) (s t : TablePlan)
    → IsTablePlan lazy imports tables active s → IsTablePlan lazy imports tables active t → SameTables s t
same-tables lazy imports tables active s t a b =
    let taken : a.taken ≡ b.taken = one-prefix lazy imports tables active a.taken s.segments b.taken t.segments a.prefix b.prefix in
    record { segments = append_cancel_left a.taken s.segments t.segments (cc); initials = cc }
