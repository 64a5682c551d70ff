-- How the memories of a plan begin is determined by the module and the options.
use Rattle.std.proofs.Common.{◌≡◌, ◌∙◌, ℕ, ◌+◌, List, [], ◌∷◌, map, Option, None, Some, refl, sym, ap, subst, inl, inr}
use Rattle.std.specs.Prelude.{◌⊎◌}
use Rattle.std.specs.List.{All}
use Rattle.std.proofs.lemmas.List.Elements.{All-nil, All-cons, All-head, All-tail}
use Rattle.wasm_index.specs.declared.index.Index.{Index}
use Rattle.wasm_index.specs.declared.spaces.MemorySpace.{MemorySpace}
use Rattle.wasm_index.specs.declared.spaces.RuntimeDataSpace.{RuntimeDataSpace}
use Rattle.wasm_index.specs.Index.{number_of, index_of}
use Rattle.wasm_types.specs.ViewsTell.{Back}
use Rattle.wasm_convert.specs.declared.operators.ConstOp.{ConstOp}
use Rattle.wasm_convert.specs.declared.operators.ConstOp.TheVariants as ops
use Rattle.wasm_convert.specs.Constants.{const_ops_of, expression_of}
use Rattle.wasm_convert.specs.Conversion.{LookUp}
use Rattle.wasm_convert.specs.Operators.{const_op_of, operator_of, conversion-is}
use Rattle.wasm_module.specs.declared.memory_initialization.MemoryInitialization.{MemoryInitialization}
use Rattle.wasm_module.specs.declared.memory_initialization.MemoryInitialization.TheVariants as initialization
use Rattle.replay_spec.specs.Data.{ActiveSegment}
use Rattle.replay_spec.specs.Plan.{PlannedOffset, Expr, Static, PlannedSegment, MemoryPlan, planned_from}
use Rattle.replay_spec.specs.Images.{ImageOptions, ImageMemory, entries_of, PlansImages, PlansSegments, IsMemoryPlan}
use Rattle.init_plan.specs.declared.translation.MemoryInit.{MemoryInit}
use Rattle.init_plan.specs.declared.translation.MemoryInit.TheVariants as init
use Rattle.init_plan.specs.declared.translation.MemorySegmentOffset.{MemorySegmentOffset}
use Rattle.init_plan.specs.declared.translation.MemorySegmentOffset.TheVariants as offset
use Rattle.init_plan.specs.Views.{IsSegmented, IsProcessed, images_of, planned_offset_of, planned_segment_of, processed_of}
use Rattle.plan_laws.specs.Same.{left_of}
use Rattle.plan_laws.proofs.Told.{option-back, all-told}
use Rattle.plan_laws.proofs.Numeric.{IsNoNull}

-- ---- whether memories begin as images, and as which

image-back : Back {A = ℕ × Index RuntimeDataSpace} {B = ℕ × ℕ} (λ image. (image.0, number_of image.1))
image-back = record { back = λ x. (x.0, index_of x.1); is = λ x. refl }

module _ (B : Type 0) where
  pub begin-same : (x y : MemoryInitialization) → (IsSegmented x → B → ⊥) → ((IsSegmented x → ⊥) → B) → (IsSegmented y → B → ⊥) → ((IsSegmented y → ⊥) → B)
      → images_of x ≡ images_of y → x ≡ y
  begin-same initialization.Segmented initialization.Segmented a b c d same = refl
  begin-same initialization.Segmented (initialization.Static ys) a b c d same = absurd (a tt (d (λ h. h)))
  begin-same (initialization.Static xs) initialization.Segmented a b c d same = absurd (c tt (b (λ h. h)))
  begin-same (initialization.Static xs) (initialization.Static ys) a b c d same = ap initialization.Static (all-told _ (option-back image-back) xs ys same)

  -- what holds where they do, and where they do not
  pub told-same : {A : Type 0} (x y : MemoryInitialization) (u v none some : A) → (IsSegmented x → B → ⊥) → ((IsSegmented y → ⊥) → B)
      → (IsSegmented y → B → ⊥) → ((IsSegmented x → ⊥) → B)
      → (IsSegmented x → u ≡ none) → ((IsSegmented x → ⊥) → u ≡ some) → (IsSegmented y → v ≡ none) → ((IsSegmented y → ⊥) → v ≡ some) → u ≡ v
  told-same initialization.Segmented initialization.Segmented u v none some a b c d e f g h = e tt ∙ sym (g tt)
  told-same initialization.Segmented (initialization.Static ys) u v none some a b c d e f g h = absurd (a tt (b (λ x. x)))
  told-same (initialization.Static xs) initialization.Segmented u v none some a b c d e f g h = absurd (c tt (d (λ x. x)))
  told-same (initialization.Static xs) (initialization.Static ys) u v none some a b c d e f g h = f (λ x. x) ∙ sym (h (λ x. x))

-- ---- the segments that are left

-- an operator that is no null reference is had back
op-back : (look : LookUp) (op : ConstOp) → IsNoNull (operator_of op) → const_op_of look (operator_of op) ≡ op
op-back look (ops.RefNull heap) none = absurd none
op-back look op none = refl

ops-back : (look : LookUp) (e : List ConstOp) → All IsNoNull (expression_of e) → const_ops_of look (expression_of e) ≡ e
ops-back look [] none = refl
ops-back look (op ∷ e) none =
    let head = conversion-is look (operator_of op) ∙ op-back look op (All-head IsNoNull (operator_of op) (expression_of e) none) in
    let tail = ops-back look e (All-tail IsNoNull (operator_of op) (expression_of e) none) in
    λ i. head i ∷ tail i

-- an offset without null references
abbrev pub IsPlain : PlannedOffset → Type 0
IsPlain (Expr e) = All IsNoNull e
IsPlain (Static place) = Unit {0}

abbrev pub HasNoNull : PlannedSegment → Type 0
HasNoNull s = IsPlain s.offset

abbrev LeftSegment : Type 0
LeftSegment = Index MemorySpace × MemorySegmentOffset × Index RuntimeDataSpace

module _ (look : LookUp) where
  abbrev offset_from : PlannedOffset → MemorySegmentOffset
  offset_from (Expr e) = offset.Expr (const_ops_of look e)
  offset_from (Static place) = offset.Static place

  abbrev segment_from : PlannedSegment → LeftSegment
  segment_from s = (index_of s.memory, offset_from s.offset, index_of s.index)

  offset-from-is : (x : MemorySegmentOffset) → IsPlain (planned_offset_of x) → offset_from (planned_offset_of x) ≡ x
  offset-from-is (offset.Expr e) none = ap offset.Expr (ops-back look e none)
  offset-from-is (offset.Static place) none = refl

  segments-from-is : (xs : List LeftSegment) → All HasNoNull (map planned_segment_of xs) → map segment_from (map planned_segment_of xs) ≡ xs
  segments-from-is [] none = refl
  segments-from-is (x ∷ xs) none =
      let head = offset-from-is x.1 (All-head HasNoNull (planned_segment_of x) (map planned_segment_of xs) none) in
      let tail = segments-from-is xs (All-tail HasNoNull (planned_segment_of x) (map planned_segment_of xs) none) in
      λ i. (x.0, head i, x.2) ∷ tail i

  segments-same : (xs ys : List LeftSegment) → All HasNoNull (map planned_segment_of xs) → map planned_segment_of xs ≡ map planned_segment_of ys → xs ≡ ys
  segments-same xs ys none same =
      sym (segments-from-is xs none) ∙ ap (map segment_from) same ∙ segments-from-is ys (subst (All HasNoNull) same none)

  pub left-same : (x y : MemoryInit) → IsProcessed x → IsProcessed y → All HasNoNull (processed_of x) → processed_of x ≡ processed_of y → left_of x ≡ left_of y
  left-same (init.Unprocessed xs) y a b none same = absurd a
  left-same (init.Processed xs) (init.Unprocessed ys) a b none same = absurd b
  left-same (init.Processed xs) (init.Processed ys) a b none same = segments-same xs.items ys.items none same

-- entries of segments without null references
pub planned-no-null : (start : ℕ) (ss : List ActiveSegment) → All (λ (s : ActiveSegment). All IsNoNull s.offset) ss → All HasNoNull (planned_from start ss)
planned-no-null start [] none = All-nil HasNoNull
planned-no-null start (s ∷ ss) none =
    All-cons HasNoNull _ (planned_from (start + 1) ss) (All-head (λ (s : ActiveSegment). All IsNoNull s.offset) s ss none)
    (planned-no-null (start + 1) ss (All-tail (λ (s : ActiveSegment). All IsNoNull s.offset) s ss none))

entries-no-null : (memory : ℕ) (images : List (Option (ℕ × ℕ))) → All HasNoNull (entries_of memory images)
entries-no-null memory [] = All-nil HasNoNull
entries-no-null memory (None ∷ images) = entries-no-null (memory + 1) images
entries-no-null memory (Some image ∷ images) = All-cons HasNoNull _ (entries_of (memory + 1) images) tt (entries-no-null (memory + 1) images)

-- the entries of any plan of segments without null references
pub plan-no-null : (options : ImageOptions) (imports : ℕ) (memories : List ImageMemory) (active : List ActiveSegment) (passive : List (List ℕ)) (plan : MemoryPlan)
    → All (λ (s : ActiveSegment). All IsNoNull s.offset) active → IsMemoryPlan options imports memories active passive plan → All HasNoNull plan.segments
plan-no-null options imports memories active passive plan none is = by is.segments where
  by : PlansImages options imports memories active passive plan ⊎ PlansSegments options imports memories active passive plan → All HasNoNull plan.segments
  by (inl x) = subst (All HasNoNull) (sym x.in_list) (entries-no-null 0 plan.images)
  by (inr x) = subst (All HasNoNull) (sym x.in_list) (planned-no-null 0 active none)
