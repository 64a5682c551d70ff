-- What a finished translation gives its parts.
use Rattle.std.proofs.Common.{◌≡◌, ℕ, suc, ◌+◌, ◌-◌, ◌^◌, ◌<◌, ◌≤◌, Bool, false, List, [], ◌∷◌, ◌++◌, length, map, get_or, Option, None, Some, refl, sym, ◌∙◌, ap, arith}
use Rattle.std.specs.Prelude.{slice_get, sum_by, All}
use Rattle.std.proofs.lemmas.List.{length-map, length-append, length-drop}
use Rattle.std.proofs.lemmas.List.Elements.{All-nil, All-cons, All-head, All-tail, All-map}
use Rattle.std.proofs.lemmas.List.Sums.{get_or-le-sum_by}
use Rattle.std.proofs.lemmas.Option.{slice_get-get_or, slice_get_within, same_Some, none-some}
use Rattle.wasm_spec.specs.Module.{Expression}
use Rattle.wasm_types.specs.declared.memory.Memory.{Memory}
use Rattle.wasm_types.specs.Memories.{minimum_bytes}
use Rattle.replay_spec.specs.Phases.{Piece, Phase, before_trap}
use Rattle.replay_spec.specs.Plan.{MemoryPlan, PlannedSegment, PlannedOffset}
use Rattle.replay_spec.specs.Elements.{ActiveElements, elements_piece}
use Rattle.replay_spec.specs.Values as plain
use Rattle.replay_spec.specs.Values.{Term}
use Rattle.wasm_types.specs.declared.table.Table.{Table}
use Rattle.wasm_module.specs.declared.table_initialization.TableInitialValue.{TableInitialValue}
use Rattle.table_images.specs.Views.{planned_tables_of}
use Rattle.init_plan.specs.Tables.{plan_of_tables, own_tables, AreCounted}
use Rattle.plan_run.specs.declared.elements.ElementPiece.{ElementPiece}
use Rattle.plan_run.specs.declared.segments.DataPiece.{DataPiece}
use Rattle.init_plan.specs.declared.translation.ModuleTranslation.{ModuleTranslation}
use Rattle.init_plan.specs.Views.{IsStatic, memory_plan_of}
use Rattle.paged_memory.specs.Memory.{Contents, count_lent}
use Rattle.form_types.proofs.AllOf.{All-from_map}
use Rattle.plan_run.specs.declared.laid.Way.{Way}
use Rattle.plan_run.specs.declared.laid.Way.TheVariants as way
use Rattle.plan_run.specs.Finished.{Finished}
use Rattle.plan_run.specs.Laid.{LendsImage, PagesAreLent, LendImages}
use Rattle.plan_run.specs.Lays.{Hold}
use Rattle.plan_run.specs.Limits.{most_bytes, page_size_of, own_memories}
use Rattle.plan_run.specs.Memories.{bytes_in, plan_phase, data_piece, image_in, image_pages, is_of_image, lends, begun, seen, ImageIsWithin, ImagesAreWithin}
use Rattle.plan_run.specs.Segments.{left_pieces, still_lent, LendOn}
use Rattle.plan_run.specs.Tables.{element_piece}
use Rattle.plan_run.proofs.Begun.{within-at, begun-hold, begun-same, begun-pages}
use Rattle.plan_run.proofs.LentPages.{still-none, first-lends, first-count, count-empty}
use Rattle.plan_run.proofs.Lists.{get-drop}

-- ---- memories

-- memories that are not too large are small
pub each-small : (ms : List Memory) → (most_bytes < sum_by minimum_bytes ms → ⊥) → All (λ m. minimum_bytes m < 2 ^ 64) ms
each-small ms few k d l = omega (arith, get_or-le-sum_by minimum_bytes ms k d l)

within-each : (w : Way) (plan : MemoryPlan) (page n : ℕ) (ms : List Memory)
    → ((j : ℕ) (m : Memory) → slice_get ms j ≡ Some m → ImageIsWithin page (minimum_bytes m) (image_in w plan (n + j))) → ImagesAreWithin w plan page n ms
within-each w plan page n [] each = tt
within-each w plan page n (m ∷ ms) each = (grind (arith, each 0 m refl), within-each w plan page (n + 1) ms (λ j o at. grind (arith, each (suc j) o at)))

module _ (t : ModuleTranslation) (f : Finished t) where
  within-one : (w : Way) (i : ℕ) (m : Memory) → slice_get t.module.memories i ≡ Some m
      → ImageIsWithin (page_size_of t) (minimum_bytes m) (image_in w (memory_plan_of t) i)
  within-one w i m at = grind arith

  pub images-within : (w : Way) → ImagesAreWithin w (memory_plan_of t) (page_size_of t) t.module.num_imported_memories (own_memories t)
  images-within w = within-each w (memory_plan_of t) (page_size_of t) t.module.num_imported_memories (own_memories t) (λ j m at. grind (arith, get-drop))

  -- no imported memory has an image
  pub none-imported : (w : Way) (i : ℕ) → i < t.module.num_imported_memories → image_in w (memory_plan_of t) i ≡ None
  none-imported w i l = grind arith

-- the image of one of the defined memories
pub within-of : (t : ModuleTranslation) (w : Way) (page i : ℕ) (ms : List Memory) (d : Memory) → ms ≡ t.module.memories → t.module.num_imported_memories ≤ i → i < length ms
    → ImagesAreWithin w (memory_plan_of t) page t.module.num_imported_memories (own_memories t)
    → ImageIsWithin page (minimum_bytes (get_or ms i d)) (image_in w (memory_plan_of t) i)
within-of t w page i ms d same low high within =
    let own = within-at w (memory_plan_of t) page t.module.num_imported_memories (i - t.module.num_imported_memories) (own_memories t) (get_or ms i d) in
    grind (arith, get-drop, slice_get-get_or)

-- so many memories
pub begun-count : (w : Way) (plan : MemoryPlan) (page n : ℕ) (ms : List Memory) → length (begun w plan page n ms) ≡ length ms
begun-count w plan page n [] = refl
begun-count w plan page n (m ∷ ms) = ap suc (begun-count w plan page (n + 1) ms)

pub memory-count : (t : ModuleTranslation) (w : Way) (imported memories : List Contents)
    → t.module.num_imported_memories ≤ length t.module.memories → length imported ≡ t.module.num_imported_memories
    → map seen memories ≡ map seen imported ++ begun w (memory_plan_of t) (page_size_of t) t.module.num_imported_memories (own_memories t)
    → length memories ≡ length t.module.memories
memory-count t w imported memories few many are = grind (arith, length-map, length-append, begun-count, length-drop)

-- ---- segments

module _ (place_of : Expression → ℕ) (plan : MemoryPlan) where
  abbrev Below : ℕ → Piece ℕ → Type 0
  Below n p = p.object < n

  pub left-below : (w : Way) (n : ℕ) (segments : List PlannedSegment) → All (λ s. s.memory < n) segments → All (λ p. p.object < n) (left_pieces w place_of plan segments)
  left-below w n [] all = All-nil (Below n)
  left-below w n (s ∷ ss) all = over w s.offset (All-head (λ (x : PlannedSegment). x.memory < n) s ss all) (left-below w n ss (All-tail (λ (x : PlannedSegment). x.memory < n) s ss all)) where
    over : (w : Way) (offset : PlannedOffset) → s.memory < n → All (λ p. p.object < n) (left_pieces w place_of plan ss)
        → All (λ p. p.object < n) (left_pieces w place_of plan (record { memory = s.memory; offset = offset; index = s.index } ∷ ss))
    over w offset l rest = grind (arith, All-cons)

  -- images alone leave nothing to be written
  pub none-left : (segments : List PlannedSegment) → All (λ s. IsStatic s.offset) segments → left_pieces way.Map place_of plan segments ≡ []
  none-left [] all = refl
  none-left (s ∷ ss) all = grind (arith, All-head (λ (x : PlannedSegment). IsStatic x.offset) s ss all, none-left ss (All-tail (λ (x : PlannedSegment). IsStatic x.offset) s ss all))

-- ---- what the memories hold, and borrow

module _ (t : ModuleTranslation) (f : Finished t) (w : Way) (place_of : Expression → ℕ) (imported memories : List Contents) (many : length imported ≡ t.module.num_imported_memories)
    (are : map seen memories ≡ map seen imported ++ begun w (memory_plan_of t) (page_size_of t) t.module.num_imported_memories (own_memories t)) where
  are-so : map seen memories ≡ map seen imported ++ begun w (memory_plan_of t) (page_size_of t) (length imported) (own_memories t)
  are-so = rw many are

  pub memories-hold : Hold (plan_phase w place_of (bytes_in imported) (memory_plan_of t)).sizes (plan_phase w place_of (bytes_in imported) (memory_plan_of t)).base (bytes_in memories)
  memories-hold = grind (arith, begun-hold, are-so, none-imported, images-within)

  alone-at : (i : ℕ) (image : ℕ × List ℕ) → image_in way.Map (memory_plan_of t) i ≡ Some image → All (λ s. IsStatic s.offset) (memory_plan_of t).segments
  alone-at i image is = grind arith

  -- where there is an image, no memory is written to
  none-kept : (v : Way) (i : ℕ) (image : ℕ × List ℕ) → image_in v (memory_plan_of t) i ≡ Some image → left_pieces v place_of (memory_plan_of t) (memory_plan_of t).segments ≡ []
  none-kept way.Map i image is = none-left place_of (memory_plan_of t) (memory_plan_of t).segments (alone-at i image is)
  none-kept way.Copy i image is = absurd (none-some image is)

  abbrev phase : Phase ℕ
  phase = plan_phase w place_of (bytes_in imported) (memory_plan_of t)

  abbrev image_at : ℕ → Option (ℕ × List ℕ)
  image_at i = image_in w (memory_plan_of t) i

  -- memories to which the rest is written
  module _ (new : List Contents) (count : length new ≡ length memories) (on : LendOn phase memories new)
      (still : left_pieces w place_of (memory_plan_of t) (memory_plan_of t).segments ≡ [] → new ≡ memories) where
    began : (i : ℕ) (memory : Contents) → slice_get new i ≡ Some memory → slice_get memories i ≡ Some (get_or memories i memory)
    began i memory at = slice_get-get_or memories i memory (omega (arith, count, slice_get_within new i memory at))

    as-began : (i : ℕ) (memory : Contents) (image : ℕ × List ℕ) → slice_get new i ≡ Some memory → image_at i ≡ Some image → memory ≡ get_or memories i memory
    as-began i memory image at is =
        same_Some memory (get_or memories i memory) (sym at ∙ ap (λ (l : List Contents). slice_get l i) (still (none-kept w i image is)) ∙ began i memory at)

    lends-begun : (i page : ℕ) (memory : Contents) → t.module.num_imported_memories ≤ i → slice_get memories i ≡ Some memory
        → lends memory page ≡ is_of_image (page_size_of t) (image_at i) page
    lends-begun i page memory high at =
        let b = begun-pages w (memory_plan_of t) (page_size_of t) imported memories (own_memories t) are-so i memory (omega (arith, many)) at in
        let is : i ≡ t.module.num_imported_memories + (i - length imported) = omega (arith, many) in
        let found : slice_get t.module.memories i ≡ Some b.0 =
        ap (slice_get t.module.memories) is ∙ sym (get-drop t.module.num_imported_memories t.module.memories (i - length imported)) ∙ b.1 in
        ap (λ (l : List Bool). get_or l page false) b.3
        ∙ first-lends (page_size_of t) (minimum_bytes b.0) (image_at i) page f.memories.page (within-one t f w i b.0 found)

    module _ (i : ℕ) (memory : Contents) (at : slice_get new i ≡ Some memory) (high : t.module.num_imported_memories ≤ i) where
      abbrev before : Contents
      before = get_or memories i memory

      -- with no image no page is borrowed, and with one the memory is what it was
      lends-by : (image : Option (ℕ × List ℕ)) → image_at i ≡ image → (page : ℕ) → lends memory page ≡ is_of_image (page_size_of t) image page
      lends-by None none page =
          on.lent i page before memory (began i memory at) at
          ∙ ap (λ b. still_lent before.page i page b (before_trap phase.sizes phase.pieces))
          (lends-begun i page before high (began i memory at) ∙ ap (λ (o : Option (ℕ × List ℕ)). is_of_image (page_size_of t) o page) none)
          ∙ still-none before.page i page (before_trap phase.sizes phase.pieces)
      lends-by (Some image) is page =
          ap (λ (m : Contents). lends m page) (as-began i memory image at is) ∙ lends-begun i page before high (began i memory at)
          ∙ ap (λ (o : Option (ℕ × List ℕ)). is_of_image (page_size_of t) o page) is

      defined-lend : LendsImage (page_size_of t) (image_at i) memory
      defined-lend = record {
        page_size = on.sizes i before memory (began i memory at) at
            ∙ (begun-pages w (memory_plan_of t) (page_size_of t) imported memories (own_memories t) are-so i before (omega (arith, many)) (began i memory at)).2;
        lent = lends-by (image_at i) refl;
      }

      count-by : (image : Option (ℕ × List ℕ)) → image_at i ≡ image → count_lent memory.lent ≡ image_pages (page_size_of t) image
      count-by None none = count-empty memory.lent (lends-by None none)
      count-by (Some image) is =
          let b = begun-pages w (memory_plan_of t) (page_size_of t) imported memories (own_memories t) are-so i before (omega (arith, many)) (began i memory at) in
          ap (λ (m : Contents). count_lent m.lent) (as-began i memory image at is) ∙ ap count_lent b.3
          ∙ first-count (page_size_of t) (minimum_bytes b.0) (image_at i) ∙ ap (image_pages (page_size_of t)) is

    imports-lend : LendOn phase imported new
    imports-lend = record {
      sizes = λ i before after was is.
          let mid : Contents = get_or memories i after in
          on.sizes i mid after (began i after is) is
          ∙ ap (λ (s : List ℕ × ℕ × List Bool). s.1) (begun-same w (memory_plan_of t) (page_size_of t) imported memories (own_memories t) are-so i before mid was (began i after is));
      lent = λ i page before after was is.
          let mid : Contents = get_or memories i after in
          on.lent i page mid after (began i after is) is
          ∙ ap (λ (s : List ℕ × ℕ × List Bool). still_lent s.1 i page (get_or s.2 page false) (before_trap phase.sizes phase.pieces))
          (begun-same w (memory_plan_of t) (page_size_of t) imported memories (own_memories t) are-so i before mid was (began i after is));
    }

    pub pages-lent : PagesAreLent t w phase imported new
    pages-lent = record { defined = defined-lend; imports = imports-lend }

    pub shared-after : LendImages t w new
    shared-after i memory at high = count-by i memory at high (image_at i) refl

pub nil-mapped : {A B : Type 0} (f : A → B) (xs : List A) → map f xs ≡ [] → xs ≡ []
nil-mapped f [] is = refl
nil-mapped f (x ∷ xs) is = absurd cc

-- ---- tables

pub planned-count : (ts : List Table) (vs : List TableInitialValue) (images : List (List (Option ℕ))) → length ts ≡ length vs → length images ≡ length vs
    → length (planned_tables_of ts vs images) ≡ length ts
planned-count [] vs images one two = refl
planned-count (t ∷ ts) (v ∷ vs) (i ∷ images) one two = ap suc (planned-count ts vs images (omega arith) (omega arith))
planned-count _ _ _ one two = absurd (omega arith)

-- so many tables are planned
pub tables-planned : (t : ModuleTranslation) → AreCounted t → length (plan_of_tables t).tables ≡ length (own_tables t)
tables-planned t counted = grind (arith, planned-count, length-map)

pub elements-below : (globals : List plain.Value) (fields : ℕ → ℕ) (terms : List Term) (n : ℕ) (segments : List ActiveElements) (pieces : List ElementPiece)
    → All (λ s. s.table < n) segments → map (element_piece terms) pieces ≡ map (elements_piece globals fields) segments → All (λ p. p.table < n) pieces
elements-below globals fields terms n segments pieces all are =
    All-from_map (λ (q : Piece plain.Value). q.object < n) (element_piece terms) pieces (rw are (All-map (λ (q : Piece plain.Value). q.object < n) (elements_piece globals fields) segments all))

pub data-below : (n : ℕ) (left : List (Piece ℕ)) (pieces : List DataPiece) → All (λ q. q.object < n) left → map data_piece pieces ≡ left → All (λ p. p.memory < n) pieces
data-below n left pieces all are = All-from_map (λ (q : Piece ℕ). q.object < n) data_piece pieces (rw are all)
