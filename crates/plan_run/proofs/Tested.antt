-- What a test of a translation shows.
use Rattle.std.proofs.Common.{◌≡◌, ℕ, zero, suc, ◌<◌, ◌≤◌, List, [], ◌∷◌, length, map, get_or, Option, None, Some, refl, sym, ◌∙◌, ap, subst, arith}
use Rattle.std.specs.Prelude.{slice_get, All, IfSome}
use Rattle.std.specs.Global.{Vec}
use Rattle.std.specs.Option.{option_map}
use Rattle.std.proofs.lemmas.List.{length-map}
use Rattle.std.proofs.lemmas.List.Elements.{All-same, All-map}
use Rattle.std.proofs.lemmas.Option.{none-some, same_Some, slice_get-map, get_or_from_slice_get}
use Rattle.wasm_index.specs.declared.index.Index.{Index}
use Rattle.wasm_index.specs.declared.spaces.FuncSpace.{FuncSpace}
use Rattle.wasm_index.specs.declared.spaces.MemorySpace.{MemorySpace}
use Rattle.wasm_index.specs.declared.spaces.RuntimeDataSpace.{RuntimeDataSpace}
use Rattle.wasm_index.specs.Index.{number_of}
use Rattle.wasm_types.specs.declared.table.Table.{Table}
use Rattle.wasm_module.specs.declared.table_initialization.TableInitialValue.{TableInitialValue}
use Rattle.replay_spec.specs.Plan.{PlannedSegment}
use Rattle.replay_spec.specs.Tables.{PlannedTable}
use Rattle.table_images.specs.Steps.{images_of}
use Rattle.table_images.specs.Views.{cell_of, image_of, initial_of, planned_tables_of}
use Rattle.init_plan.specs.declared.translation.MemorySegmentOffset.{MemorySegmentOffset}
use Rattle.init_plan.specs.Views.{IsStatic, planned_offset_of, planned_segment_of}
use Rattle.form_types.proofs.AllOf.{All-from_map}
use Rattle.plan_run.proofs.CellSteps.{planned-at}
use Rattle.plan_run.proofs.Given.{planned-count}
use Rattle.plan_run.proofs.LeftSteps.{view_image}
use Rattle.plan_run.proofs.Lists.{some-at, all-at}

-- ---- segments

module _ (segments : List (Index MemorySpace × MemorySegmentOffset × Index RuntimeDataSpace)) (processed : List PlannedSegment) (is : processed ≡ map planned_segment_of segments) where
  planned-on : (P : PlannedSegment → Type 0) → All (λ s. P (planned_segment_of s)) segments → All P processed
  planned-on P all = All-same P processed (map planned_segment_of segments) is (All-map P planned_segment_of segments all)

  planned-back : (P : PlannedSegment → Type 0) → All P processed → All (λ s. P (planned_segment_of s)) segments
  planned-back P all = All-from_map P planned_segment_of segments (All-same P (map planned_segment_of segments) processed (sym is) all)

  pub static-on : All (λ s. IsStatic (planned_offset_of s.1)) segments → All (λ s. IsStatic s.offset) processed
  static-on = planned-on (λ s. IsStatic s.offset)

  pub static-back : All (λ s. IsStatic s.offset) processed → All (λ s. IsStatic (planned_offset_of s.1)) segments
  static-back = planned-back (λ s. IsStatic s.offset)

  pub below-on : (n : ℕ) → All (λ s. number_of s.0 < n) segments → All (λ s. s.memory < n) processed
  below-on n = planned-on (λ s. s.memory < n)

  pub below-back : (n : ℕ) → All (λ s. s.memory < n) processed → All (λ s. number_of s.0 < n) segments
  below-back n = planned-back (λ s. s.memory < n)

-- ---- images of memories

pub image-of : (P : ℕ × ℕ → Type 0) (images : List (Option (ℕ × Index RuntimeDataSpace))) (i : ℕ) (image : ℕ × ℕ)
    → slice_get (map (option_map view_image) images) i ≡ Some (Some image) → IfSome (get_or images i None) (λ x. P (x.0, number_of x.1)) → P image
image-of P [] i image at has = absurd (none-some (Some image) at)
image-of P (None ∷ xs) zero image at has = absurd (none-some image (same_Some None (Some image) at))
image-of P (Some x ∷ xs) zero image at has = subst P (same_Some (view_image x) image (same_Some (Some (view_image x)) (Some image) at)) has
image-of P (x ∷ xs) (suc i) image at has = image-of P xs i image at has

pub image-from : (P : ℕ × ℕ → Type 0) (images : List (Option (ℕ × Index RuntimeDataSpace))) (i : ℕ)
    → ((image : ℕ × ℕ) → slice_get (map (option_map view_image) images) i ≡ Some (Some image) → P image) → IfSome (get_or images i None) (λ x. P (x.0, number_of x.1))
image-from P [] i all = tt
image-from P (None ∷ xs) zero all = tt
image-from P (Some x ∷ xs) zero all = all (view_image x) refl
image-from P (x ∷ xs) (suc i) all = image-from P xs i all

-- ---- images of tables

module _ (tables : List Table) (values : List TableInitialValue) (images : List (Vec (Index FuncSpace))) (many : length values ≡ length tables) (each : length images ≡ length tables) where
  abbrev planned : Table → TableInitialValue → Vec (Index FuncSpace) → PlannedTable
  planned t v image = record { minimum = t.limits.min; initial = initial_of v; image = image_of image.items }

  planned-here : (i : ℕ) (t : Table) (v : TableInitialValue) (image : Vec (Index FuncSpace)) → slice_get tables i ≡ Some t → slice_get values i ≡ Some v → slice_get images i ≡ Some image
      → slice_get (planned_tables_of tables values (images_of images)) i ≡ Some (planned t v image)
  planned-here i t v image a b c = planned-at tables values (images_of images) i t v (image_of image.items) a b
      (slice_get-map (λ (x : Vec (Index FuncSpace)). image_of x.items) images i ∙ ap (option_map (λ (x : Vec (Index FuncSpace)). image_of x.items)) c)

  -- one that is longer
  pub not-short : (i : ℕ) (t : Table) (image : Vec (Index FuncSpace)) → slice_get tables i ≡ Some t → slice_get images i ≡ Some image → i < length tables → t.limits.min < length image.items
      → All (λ table. length table.image ≤ table.minimum) (planned_tables_of tables values (images_of images)) → ⊥
  not-short i t image a c low longer all =
      let v = some-at values i (omega arith) in
      let l : length (image_of image.items) ≤ t.limits.min =
      all-at (λ (x : PlannedTable). length x.image ≤ x.minimum) (planned_tables_of tables values (images_of images)) i (planned t v.0 image) all (planned-here i t v.0 image a v.1 c) in
      omega (arith, l, length-map image.items cell_of)

  -- or none is
  pub all-short : ((i : ℕ) (t : Table) (image : Vec (Index FuncSpace)) → i < length tables → slice_get tables i ≡ Some t → slice_get images i ≡ Some image → length image.items ≤ t.limits.min)
      → All (λ table. length table.image ≤ table.minimum) (planned_tables_of tables values (images_of images))
  all-short short i d l =
      let count = planned-count tables values (images_of images) (sym many) (length-map images (λ (x : Vec (Index FuncSpace)). image_of x.items) ∙ each ∙ sym many) in
      let low : i < length tables = omega arith in
      let t = some-at tables i low in
      let v = some-at values i (omega arith) in
      let image = some-at images i (omega arith) in
      let is : get_or (planned_tables_of tables values (images_of images)) i d ≡ planned t.0 v.0 image.0 =
      get_or_from_slice_get (planned_tables_of tables values (images_of images)) i (planned t.0 v.0 image.0) d (planned-here i t.0 v.0 image.0 t.1 v.1 image.1) in
      let one = short i t.0 image.0 low t.1 image.1 in
      subst (λ (x : PlannedTable). length x.image ≤ x.minimum) (sym is) (omega (arith, one, length-map image.0.items cell_of))
