-- Memories as they begin hold what their phase begins with.
use Rattle.std.proofs.Common.{◌≡◌, ◌≢◌, ℕ, zero, suc, ◌+◌, ◌-◌, ◌<◌, ◌≤◌, Bool, List, [], ◌∷◌, ◌++◌, length, map, replicate, Option, None, Some, refl, sym, ◌∙◌, ap, subst, arith}
use Rattle.std.specs.Prelude.{slice_get, unwrap_or}
use Rattle.std.specs.Option.{option_map}
use Rattle.std.proofs.lemmas.List.{length-map, length-replicate, get_or_append_left}
use Rattle.std.proofs.lemmas.Option.{none-some, same_Some, slice_get-map, slice_get-get_or, slice_get_within, slice_get_past, get_or_from_slice_get}
use Rattle.wasm_spec.specs.Module.{Expression}
use Rattle.wasm_types.specs.declared.memory.Memory.{Memory}
use Rattle.wasm_types.specs.Memories.{minimum_bytes}
use Rattle.replay_spec.specs.Phases.{Piece, item_at, last_item}
use Rattle.replay_spec.specs.Data.{memory_sizes, memory_base}
use Rattle.replay_spec.specs.Plan.{MemoryPlan, runtime_bytes, image_pieces}
use Rattle.replay_spec.proofs.Covering.{item-cover}
use Rattle.paged_memory.specs.Memory.{Contents}
use Rattle.plan_run.specs.declared.laid.Way.{Way}
use Rattle.plan_run.specs.declared.laid.Way.TheVariants as way
use Rattle.plan_run.specs.Lays.{Hold}
use Rattle.plan_run.specs.Memories.{bytes_in, plan_phase, image_in, first_bytes, first_lent, seen, begun, ImageIsWithin, ImagesAreWithin}
use Rattle.plan_run.proofs.Lists.{get-replicate, get-append-low, get-append-high, each-half}
use Rattle.plan_run.proofs.Writing.{written-item, length-written}

-- ---- images

abbrev pub image_piece : ℕ → ℕ × List ℕ → Piece ℕ
image_piece object image = record { object = object; offset = image.0; items = image.1 }

-- what an image leaves at a position
abbrev pub laid_over : Option (ℕ × List ℕ) → ℕ → ℕ → ℕ → ℕ
laid_over None object place d = d
laid_over (Some image) object place d = unwrap_or (item_at object place (image_piece object image)) d

item-elsewhere : (object place : ℕ) (p : Piece ℕ) → p.object ≢ object → item_at object place p ≡ None
item-elsewhere object place p ne = grind (arith, item-cover object place p)

module _ (plan : MemoryPlan) where
  abbrev read : ℕ × ℕ → ℕ × List ℕ
  read image = (image.0, runtime_bytes plan image.1)

  images-below : (images : List (Option (ℕ × ℕ))) (n object place d : ℕ) → object < n → last_item object place d (image_pieces plan n images) ≡ d
  images-below [] n object place d lt = refl
  images-below (None ∷ images) n object place d lt = images-below images (n + 1) object place d (omega arith)
  images-below (Some image ∷ images) n object place d lt = grind (arith, item-elsewhere, (images-below images (n + 1) object place d (omega arith)))

  images-at : (images : List (Option (ℕ × ℕ))) (n j object place d : ℕ) → n + j ≡ object
      → last_item object place d (image_pieces plan n images) ≡ laid_over (option_map read (unwrap_or (slice_get images j) None)) object place d
  images-at [] n j object place d is = refl
  images-at (None ∷ images) n zero object place d is = images-below images (n + 1) object place d (omega arith)
  images-at (Some image ∷ images) n zero object place d is = grind (arith, images-below)
  images-at (None ∷ images) n (suc j) object place d is = images-at images (n + 1) j object place d (omega arith)
  images-at (Some image ∷ images) n (suc j) object place d is = grind (arith, item-elsewhere, (images-at images (n + 1) j object place d (omega arith)))

  -- what a phase begins with: the contents of an imported memory or zeros, and an image
  pub base-is : (w : Way) (place_of : Expression → ℕ) (imported : List (List ℕ)) (object place : ℕ)
      → (plan_phase w place_of imported plan).base object place ≡ laid_over (image_in w plan object) object place (memory_base imported object place)
  base-is way.Map place_of imported object place = images-at plan.images 0 object object place (memory_base imported object place) (omega arith)
  base-is way.Copy place_of imported object place = refl

  sizes-are : (w : Way) (place_of : Expression → ℕ) (imported : List (List ℕ)) (object : ℕ)
      → (plan_phase w place_of imported plan).sizes object ≡ memory_sizes imported plan.sizes object
  sizes-are way.Map place_of imported object = refl
  sizes-are way.Copy place_of imported object = refl

-- ---- one memory

length-first : (page size : ℕ) (image : Option (ℕ × List ℕ)) → ImageIsWithin page size image → length (first_bytes size image) ≡ size
length-first page size image within = grind (arith, length-replicate, length-written)

first-item : (page size object place : ℕ) (image : Option (ℕ × List ℕ)) → ImageIsWithin page size image → place < size
    → slice_get (first_bytes size image) place ≡ Some (laid_over image object place 0)
first-item page size object place None within l = get-replicate 0 size place l
first-item page size object place (Some image) within l =
    let zeros : length (replicate size 0) ≡ size = length-replicate size 0 in
    written-item object place (image_piece object image) (replicate size 0) 0 refl (subst (λ n. image.0 + length image.1 ≤ n) (sym zeros) within.2)
    (get-replicate 0 size place l)

-- ---- all

module _ (w : Way) (plan : MemoryPlan) (page : ℕ) where
  begun-at : (n j : ℕ) (ms : List Memory) (p : List ℕ × ℕ × List Bool) → slice_get (begun w plan page n ms) j ≡ Some p
      → (m : Memory) × (slice_get ms j ≡ Some m) × (p ≡ (first_bytes (minimum_bytes m) (image_in w plan (n + j)), page, first_lent page (minimum_bytes m) (image_in w plan (n + j))))
  begun-at n j [] p at = absurd (none-some p at)
  begun-at n zero (m ∷ ms) p at = (m, refl, grind arith)
  begun-at n (suc j) (m ∷ ms) p at = grind (arith, (begun-at (n + 1) j ms p at))

  pub within-at : (n j : ℕ) (ms : List Memory) (m : Memory) → slice_get ms j ≡ Some m → ImagesAreWithin w plan page n ms → ImageIsWithin page (minimum_bytes m) (image_in w plan (n + j))
  within-at n j [] m at within = absurd (none-some m at)
  within-at n zero (one ∷ ms) m at within = grind arith
  within-at n (suc j) (one ∷ ms) m at within = grind (arith, (within-at (n + 1) j ms m at within.1))

  module _ (imported memories : List Contents) (ms : List Memory) (are : map seen memories ≡ map seen imported ++ begun w plan page (length imported) ms) where
    -- an imported memory, or a defined one as it begins
    seen-low : (i : ℕ) (memory : Contents) → i < length imported → slice_get memories i ≡ Some memory → slice_get (map seen imported) i ≡ Some (seen memory)
    seen-low i memory low at = grind (arith, length-map, get-append-low, slice_get-map)

    seen-high : (j : ℕ) (memory : Contents) → slice_get memories (length imported + j) ≡ Some memory → slice_get (begun w plan page (length imported) ms) j ≡ Some (seen memory)
    seen-high j memory at = grind (arith, get-append-high, length-map, slice_get-map)

    low-bytes : (i : ℕ) (memory : Contents) → i < length imported → slice_get memories i ≡ Some memory → slice_get (bytes_in imported) i ≡ Some memory.bytes
    low-bytes i memory low at = grind (arith, slice_get-map (λ (m : Contents). m.bytes) imported i, slice_get-map seen imported i, seen-low i memory low at)

    memory-at : (i : ℕ) (object : List ℕ) → slice_get (bytes_in memories) i ≡ Some object → (memory : Contents) × (slice_get memories i ≡ Some memory) × (memory.bytes ≡ object)
    memory-at i object at = grind (arith, slice_get-map)

    -- an imported memory is what it was
    pub begun-same : (i : ℕ) (before memory : Contents) → slice_get imported i ≡ Some before → slice_get memories i ≡ Some memory → seen memory ≡ seen before
    begun-same i before memory was at =
        same_Some (seen memory) (seen before) (sym (seen-low i memory (slice_get_within imported i before was) at) ∙ slice_get-map seen imported i ∙ ap (option_map seen) was)

    -- the pages of a defined memory
    pub begun-pages : (i : ℕ) (memory : Contents) → length imported ≤ i → slice_get memories i ≡ Some memory
        → (m : Memory) × (slice_get ms (i - length imported) ≡ Some m) × (memory.page ≡ page) × (memory.lent ≡ first_lent page (minimum_bytes m) (image_in w plan i))
    begun-pages i memory high at =
        let j = i - length imported in
        let is : length imported + j ≡ i = omega arith in
        let found = begun-at (length imported) j ms (seen memory) (seen-high j memory (ap (slice_get memories) is ∙ at)) in
        let lent : memory.lent ≡ first_lent page (minimum_bytes found.0) (image_in w plan (length imported + j)) = ap (λ (s : List ℕ × ℕ × List Bool). s.2) found.2 in
        (found.0, found.1, ap (λ (s : List ℕ × ℕ × List Bool). s.1) found.2, lent ∙ ap (λ k. first_lent page (minimum_bytes found.0) (image_in w plan k)) is)

    module _ (place_of : Expression → ℕ) (sizes : plan.sizes ≡ map minimum_bytes ms) (none : (i : ℕ) → i < length imported → image_in w plan i ≡ None)
        (within : ImagesAreWithin w plan page (length imported) ms) where
      abbrev size_at : ℕ → ℕ
      size_at i = (plan_phase w place_of (bytes_in imported) plan).sizes i

      abbrev lengths : List ℕ
      lengths = map length (bytes_in imported)

      abbrev base_at : ℕ → ℕ → ℕ
      base_at i place = (plan_phase w place_of (bytes_in imported) plan).base i place

      -- an imported memory
      low-size : (i : ℕ) (memory : Contents) → i < length imported → slice_get memories i ≡ Some memory → length memory.bytes ≡ size_at i
      low-size i memory low at =
          let here = low-bytes i memory low at in
          let size = sizes-are plan w place_of (bytes_in imported) i in
          let mapped = slice_get-map length (bytes_in imported) i in
          grind (arith, length-map, get_or_append_left lengths plan.sizes 0 i, get_or_from_slice_get lengths i (length memory.bytes) 0)

      low-item : (i place : ℕ) (memory : Contents) → i < length imported → slice_get memories i ≡ Some memory → place < size_at i
          → slice_get memory.bytes place ≡ Some (base_at i place)
      low-item i place memory low at within_size = grind (arith, low-size, low-bytes, slice_get-get_or, base-is)

      -- a defined memory
      high-size : (j : ℕ) (memory : Contents) → slice_get memories (length imported + j) ≡ Some memory → length memory.bytes ≡ size_at (length imported + j)
      high-size j memory at =
          let found = begun-at (length imported) j ms (seen memory) (seen-high j memory at) in
          let first = length-first page (minimum_bytes found.0) (image_in w plan (length imported + j)) (within-at (length imported) j ms found.0 found.1 within) in
          let size = sizes-are plan w place_of (bytes_in imported) (length imported + j) in
          let high = get-append-high lengths plan.sizes j in
          let mapped = slice_get-map minimum_bytes ms j in
          grind (arith, length-map, get_or_from_slice_get (lengths ++ plan.sizes) (length lengths + j) (minimum_bytes found.0) 0)

      high-item : (j place : ℕ) (memory : Contents) → slice_get memories (length imported + j) ≡ Some memory → place < size_at (length imported + j)
          → slice_get memory.bytes place ≡ Some (base_at (length imported + j) place)
      high-item j place memory at within_size =
          let found = begun-at (length imported) j ms (seen memory) (seen-high j memory at) in
          let is_within = within-at (length imported) j ms found.0 found.1 within in
          let long = length-first page (minimum_bytes found.0) (image_in w plan (length imported + j)) is_within in
          let item = first-item page (minimum_bytes found.0) (length imported + j) place (image_in w plan (length imported + j)) is_within in
          let base = base-is plan w place_of (bytes_in imported) (length imported + j) place in
          grind (arith, high-size j memory at, length-map, slice_get_past (bytes_in imported) (length imported + j))

      any-size : (i : ℕ) (memory : Contents) → slice_get memories i ≡ Some memory → length memory.bytes ≡ size_at i
      any-size = each-half memories (length imported) (λ i m. length m.bytes ≡ size_at i) low-size high-size

      any-item : (i place : ℕ) (memory : Contents) → slice_get memories i ≡ Some memory → place < size_at i → slice_get memory.bytes place ≡ Some (base_at i place)
      any-item i place memory at =
          each-half memories (length imported) (λ i m. (place : ℕ) → place < size_at i → slice_get m.bytes place ≡ Some (base_at i place))
          (λ i m low at place. low-item i place m low at) (λ j m at place. high-item j place m at) i memory at place

      pub begun-hold : Hold (plan_phase w place_of (bytes_in imported) plan).sizes (plan_phase w place_of (bytes_in imported) plan).base (bytes_in memories)
      begun-hold = grind (arith, memory-at, any-size, any-item)
