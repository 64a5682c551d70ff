-- There is one plan of memories and one of tables, but for where passive segments are found and for
-- cells of images.
use Rattle.std.proofs.Common.{◌≡◌, ◌∙◌, ℕ, Bool, List, [], ◌∷◌, map, refl, sym, ap, inl, inr}
use Rattle.std.specs.Prelude.{◌⊎◌, ◌&&◌, Option, is_none, if◌then◌else◌}
use Rattle.std.specs.List.{cons_option, filter_map, list_all}
use Rattle.std.proofs.lemmas.List.{append_cancel_left}
use Rattle.rule_spec.specs.Lists.{Lists}
use Rattle.replay_spec.specs.Data.{ActiveSegment}
use Rattle.replay_spec.specs.Elements.{DefinedTable, ActiveElements}
use Rattle.replay_spec.specs.Plan.{MemoryPlan, kept_segments}
use Rattle.replay_spec.specs.Images.{ImageOptions, ImageMemory, IsMemoryPlan, PlansImages, PlansSegments}
use Rattle.replay_spec.specs.Tables.{TablePlan, IsTablePlan}
use Rattle.replay_spec.specs.Startup.{Never, Always, IfMemoriesNeedInit, is_empty, leaves_nothing, kept_initials, startup_of}
use Rattle.replay_spec.proofs.One.{one-list}
use Rattle.replay_spec.proofs.Taken.{one-prefix}

-- ---- memories

-- two plans that say the same, but for where passive segments are found
pub record SameMemories (p q : MemoryPlan) : Type 0 where
  pub images : p.images ≡ q.images
  pub segments : p.segments ≡ q.segments
  pub runtime : p.runtime ≡ q.runtime

module _ (options : ImageOptions) (imports : ℕ) (memories : List ImageMemory) (active : List ActiveSegment) (passive : List (List ℕ)) (p q : MemoryPlan) where
  by-rule : PlansImages options imports memories active passive p ⊎ PlansSegments options imports memories active passive p
      → PlansImages options imports memories active passive q ⊎ PlansSegments options imports memories active passive q → SameMemories p q
  by-rule (inl x) (inl y) =
      let same : x.images ≡ y.images = one-list _ _ active x.images y.images x.are_images y.are_images in
      record { images = cc; segments = cc; runtime = cc }
  by-rule (inl x) (inr y) = absurd (y.not_static x.static)
  by-rule (inr x) (inl y) = absurd (x.not_static y.static)
  by-rule (inr x) (inr y) = record { images = cc; segments = cc; runtime = cc }

  pub same-memories : IsMemoryPlan options imports memories active passive p → IsMemoryPlan options imports memories active passive q → SameMemories p q
  same-memories a b = by-rule a.segments b.segments

-- ---- tables

-- two plans that keep the same
pub record SameTables (s t : TablePlan) : Type 0 where
  pub segments : s.segments ≡ t.segments
  pub initials : map (λ x. x.initial) s.tables ≡ map (λ x. x.initial) t.tables

pub same-tables : (lazy : Bool) (imports : ℕ) (tables : List DefinedTable) (active : List ActiveElements) (s t : TablePlan)
    → IsTablePlan lazy imports tables active s → IsTablePlan lazy imports tables active t → SameTables s t
same-tables lazy imports tables active s t a b =
    let taken : a.taken ≡ b.taken = one-prefix lazy imports tables active a.taken s.segments b.taken t.segments a.prefix b.prefix in
    record { segments = append_cancel_left a.taken s.segments t.segments (cc); initials = cc }

-- ---- startup

kept-of-map : {X Y : Type 0} (f : X → Option Y) (xs : List X) → filter_map f xs ≡ filter_map (λ o. o) (map f xs)
kept-of-map f [] = refl
kept-of-map f (x ∷ xs) = ap (cons_option (f x)) (kept-of-map f xs)

same-initials : (s t : TablePlan) → SameTables s t → kept_initials s ≡ kept_initials t
same-initials s t same =
    kept-of-map (λ x. x.initial) s.tables ∙ ap (filter_map (λ o. o)) same.initials ∙ sym (kept-of-map (λ x. x.initial) t.tables)

pub same-startup : (l : Lists) (p q : MemoryPlan) (s t : TablePlan) → SameMemories p q → SameTables s t → startup_of l s p ≡ startup_of l t q
same-startup l p q s t memories tables =
    let initials = same-initials s t tables in
    λ i. if leaves_nothing l && (is_empty (initials i) && is_empty (tables.segments i))
    && is_empty (kept_segments (record p { segments = memories.segments i; runtime = memories.runtime i }))
    then (if list_all is_none (memories.images i) then Never else IfMemoriesNeedInit) else Always
