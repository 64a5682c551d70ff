-- The plan with images leaves what the segments leave.
use Rattle.std.proofs.lemmas.Grind.{common_steps}
use Rattle.std.proofs.Common.{◌≡◌, ◌≢◌, ℕ, zero, suc, ◌+◌, ◌-◌, ◌*◌, ◌/◌, ◌^◌, ◌<◌, ◌≤◌, Bool, true, false, List, [], ◌∷◌, length, get_or, map, Option, None, Some, refl, sym, ◌∙◌, ap, subst, arith, lit<, mul_assoc, pow-add}
use Rattle.std.specs.Prelude.{slice_get, nat_lt, ◌==◌, ◌&&◌}
use Rattle.std.specs.List.{filter}
use Rattle.std.specs.Int.{IsPowerOfTwo}
use Rattle.std.proofs.Math.Logic.{⊎_elim}
use Rattle.std.proofs.Math.Nat.{mul-le-mul_right, div-mul-le_self, pow-le-pow_right, pow-succ'}
use Rattle.std.proofs.lemmas.Bool.{cases_lt, le-leb, eq-eqb, lt-ltb, and_from}
use Rattle.std.proofs.lemmas.List.{length-map, append-nil, length-append}
use Rattle.std.proofs.lemmas.Option.{slice_get-get_or, slice_get_past, none-some, same_Some, unwrap_or-slice_get}
use Rattle.wasm_spec.specs.declared.entities.MemoryType.{MemoryType}
use Rattle.wasm_spec.specs.Module.{Expression, Module, imported_memories, defined_memories}
use Rattle.replay_spec.specs.Phases.{Piece, fits, last_item, SamePhase, trap_of}
use Rattle.replay_spec.specs.Values.{Value, offset_over, offset_of}
use Rattle.replay_spec.specs.Data.{ActiveSegment, piece_of, memory_sizes, memory_base, segments_phase, minimum_size, active_segments}
use Rattle.replay_spec.specs.Held.{held_segments}
use Rattle.replay_spec.proofs.HeldPhases.{agrees-held}
use Rattle.replay_spec.specs.Plan.{MemoryPlan, planned_piece, image_pieces, kept_segments, AgreesOver, Agrees}
use Rattle.replay_spec.specs.Images.{ImageOptions, ImageMemory, image_memory_of, size_of, IsPlaced, bytes_on, IsStatic, MemoryImage, written_on, IsImage, ImageOf, AreImages, PlansImages, IsMemoryPlan}
use Rattle.replay_spec.proofs.Kept.{AgreesOver-kept}
use Rattle.replay_spec.proofs.Replay.{AllFit, SamePhase-prefix, trap-fit}
use Rattle.replay_spec.proofs.Placed.{fit-placed, start-placed, pieces-over, sizes-defined, base-defined, CoversOn, last-covered, covers-nonzero, all-at}
use Rattle.replay_spec.proofs.Laid.{image_piece, pieces_from, map-pieces, entry-pieces, none-left, laid_over, last-image, laid-over}

-- ---- pages

pub positive-power : (k : ℕ) → 0 < 2 ^ k
positive-power k = pow-le-pow_right {n = 2} (lit< tt) {i = 0} {j = k} (omega arith)

-- a size in larger pages is one in smaller pages
pub whole_pages : (n k e : ℕ) → 2 ^ k ≤ 2 ^ e → n * 2 ^ e ≡ (n * 2 ^ (e - k)) * 2 ^ k
whole_pages n k e le = grind (arith, pow-le-pow_right, (pow-succ' 2 e), (positive-power e), (pow-add 2 (e - k) k), (mul_assoc n (2 ^ (e - k)) (2 ^ k)), (cases_lt e k))

-- the page of an offset that is within whole pages ends within them
pub page_end : (place page n : ℕ) → 0 < page → place < n * page → (place / page + 1) * page ≤ n * page
page_end place page n pos lt = grind (arith, mul-le-mul_right, div-mul-le_self, cases_lt)

-- ---- segments with bytes

-- x is in xs
abbrev pub Stands : {X : Type 0} → List X → X → Type 0
Stands xs x = (i : ℕ) × (slice_get xs i ≡ Some x)

pub stands-filter : {X : Type 0} (test : X → Bool) (xs : List X) (i : ℕ) (x : X) → slice_get xs i ≡ Some x → test x ≡ true → Stands (filter test xs) x
stands-filter test [] i x at passes = absurd (none-some x at)
stands-filter test (y ∷ ys) zero x at passes = grind (arith, same_Some)
stands-filter test (y ∷ ys) (suc i) x at passes = over (stands-filter test ys i x at passes) (test y) refl where
  over : Stands (filter test ys) x → (b : Bool) → test y ≡ b → Stands (filter test (y ∷ ys)) x
  over s true e = rw e (suc s.0, s.1)
  over s false e = rw e s

-- a segment that covers an offset is among those with bytes
pub stands-covers : (active : List ActiveSegment) (m place : ℕ) → (c : CoversOn active m place) → Stands (bytes_on m active) c.segment
stands-covers active m place c =
    let f = c.from in
    let u = c.upto in
    let some : 0 < length c.segment.bytes = omega arith in
    stands-filter (λ s. s.memory == m && nat_lt 0 (length s.bytes)) active c.index c.segment c.is_segment
    (and_from (c.segment.memory == m) (nat_lt 0 (length c.segment.bytes)) (eq-eqb c.segment.memory m c.on) (lt-ltb 0 (length c.segment.bytes) some))

pub stands-some : {X : Type 0} (xs : List X) (x : X) → Stands xs x → xs ≢ []
stands-some xs x h1 = grind (arith, none-some)

-- ---- images fit

module _ (options : ImageOptions) (imports : ℕ) (memories : List ImageMemory) (active : List ActiveSegment) (static : IsStatic options imports memories active)
    (page : IsPowerOfTwo options.page) where
  positive : 0 < options.page
  positive = rw page.1 (positive-power page.0)

  -- a memory with an image is defined; what it is, and that the image's pages fit into it
  pub record Home (m : ℕ) (image : MemoryImage) : Type 0 where
    pub memory : ImageMemory
    pub defined : imports ≤ m
    pub is_memory : slice_get memories (m - imports) ≡ Some memory
    pub within : image.start + length image.bytes ≤ size_of memory
    pub small : options.page ≤ 2 ^ memory.page_log2
    pub some : bytes_on m active ≢ []

  pub home : (m : ℕ) (image : MemoryImage) → IsImage options.page (written_on active m) image → Home m image
  home m image i =
      let c = covers-nonzero active m i.last i.is_last.nonzero in
      let p = all-at (IsPlaced imports memories) active c.index c.segment static.placed c.is_segment in
      let on = c.on in
      let start = start-placed imports memories c.segment p in
      let defined : imports ≤ m = (let d = p.defined in omega arith) in
      let at : slice_get memories (m - imports) ≡ Some p.memory = ap (λ k. slice_get memories (k - imports)) (sym on) ∙ p.is_memory in
      let some : bytes_on m active ≢ [] = stands-some (bytes_on m active) c.segment (stands-covers active m i.last c) in
      let back : imports + (m - imports) ≡ m = omega arith in
      let may = static.images (m - imports) p.memory at (rw back some) in
      let k = page.0 in
      let low : 2 ^ k ≤ 2 ^ p.memory.page_log2 = rw (← page.1) may.page in
      let whole : size_of p.memory ≡ (p.memory.pages * 2 ^ (p.memory.page_log2 - k)) * options.page = whole_pages p.memory.pages k p.memory.page_log2 low
      ∙ ap (λ x. (p.memory.pages * 2 ^ (p.memory.page_log2 - k)) * x) (sym page.1) in
      let w = p.within in
      let u = c.upto in
      let last : i.last < (p.memory.pages * 2 ^ (p.memory.page_log2 - k)) * options.page = omega (arith, start, w, u, whole) in
      let ends = page_end i.last options.page (p.memory.pages * 2 ^ (p.memory.page_log2 - k)) positive last in
      let end = i.end in
      record { memory = p.memory; defined = defined; is_memory = at; within = omega (arith, ends, end, whole); small = may.page; some = some }

  pub fits-image : (imported : List (List ℕ)) (m : ℕ) (image : MemoryImage) → length imported ≡ imports → IsImage options.page (written_on active m) image
      → fits (memory_sizes imported (map size_of memories)) (image_piece m image) ≡ true
  fits-image imported m image count i = grind (arith, (home m image i), (sizes-defined imported memories m), (le-leb (image.start + length image.bytes) (memory_sizes imported (map size_of memories) m)))

  fit-from : (sizes : ℕ → ℕ) (images : List (Option MemoryImage)) (n : ℕ)
      → ((object j : ℕ) (image : MemoryImage) → n + j ≡ object → slice_get images j ≡ Some (Some image) → fits sizes (image_piece object image) ≡ true)
      → AllFit sizes (pieces_from n images)
  fit-from sizes [] n each = tt
  fit-from sizes (None ∷ images) n each = fit-from sizes images (n + 1) (λ object j image is at. each object (suc j) image (omega arith) at)
  fit-from sizes (Some image ∷ images) n each = (
    each n 0 image (omega arith) refl,
    fit-from sizes images (n + 1) (λ object j image is at. each object (suc j) image (omega arith) at),
  )

  module _ (images : List (Option MemoryImage)) (are : AreImages options.page (imports + length memories) active images) where
    pub fit-images : (imported : List (List ℕ)) → length imported ≡ imports → AllFit (memory_sizes imported (map size_of memories)) (pieces_from 0 images)
    fit-images imported count = fit-from (memory_sizes imported (map size_of memories)) images 0
        (λ object j image is at.
        let i : IsImage options.page (written_on active j) image = are.each j (Some image) at in
        let e : j ≡ object = omega arith in
        rw (← e) (fits-image imported j image count i))

    -- nothing is written to an imported memory
    imported-same : (m place d : ℕ) → m < imports → last_item m place d (map (piece_of offset_of) active) ≡ d
    imported-same m place d lt = ⊎_elim (λ e. e)
        (λ (c : CoversOn active m place).
        let p = all-at (IsPlaced imports memories) active c.index c.segment static.placed c.is_segment in
        let on = c.on in
        let defined = p.defined in
        absurd (omega arith))
        (last-covered active m place d)

    imported-none : (m place d : ℕ) (image : Option MemoryImage) → m < imports → ImageOf options.page (written_on active m) image → laid_over image m place d ≡ d
    imported-none m place d image h1 h2 = grind (arith, imported-same)

    past : (imported : List (List ℕ)) (m : ℕ) → length imported ≡ imports → imports + length memories ≤ m → memory_sizes imported (map size_of memories) m ≡ 0
    past imported m count le = grind (arith, common_steps, length-append, length-map, slice_get_past, unwrap_or-slice_get)

    -- the images leave what the segments leave
    pub same-contents : (imported : List (List ℕ)) (count : length imported ≡ imports) (m place : ℕ) → place < memory_sizes imported (map size_of memories) m
        → last_item m place (memory_base imported m place) (map (piece_of offset_of) active) ≡ last_item m place (memory_base imported m place) (pieces_from 0 images)
    same-contents imported count m place within = ⊎_elim
        (λ (lt : m < imports + length memories).
        let n = are.count in
        let at : slice_get images m ≡ Some (get_or images m None) = slice_get-get_or images m None (omega arith) in
        let i : ImageOf options.page (written_on active m) (get_or images m None) = are.each m (get_or images m None) at in
        let right : last_item m place (memory_base imported m place) (pieces_from 0 images) ≡ laid_over (get_or images m None) m place (memory_base imported m place) = last-image images 0 m m place (memory_base imported m place) (get_or images m None) (omega arith) at in
        ⊎_elim
        (λ (low : m < imports).
        imported-same m place (memory_base imported m place) low
        ∙ sym (right ∙ imported-none m place (memory_base imported m place) (get_or images m None) low i))
        (λ (high : imports ≤ m).
        let zero_base : memory_base imported m place ≡ 0 = base-defined imported m place (rw count high) in
        ap (λ d. last_item m place d (map (piece_of offset_of) active)) zero_base
        ∙ sym (right ∙ ap (λ d. laid_over (get_or images m None) m place d) zero_base ∙ laid-over options.page positive (written_on active m) m place (get_or images m None) i))
        (cases_lt m imports))
        (λ (ge : imports + length memories ≤ m). let none = past imported m count ge in absurd (omega (arith, none)))
        (cases_lt m (imports + length memories))

-- two phases whose pieces all fit and leave the same
SamePhase-all : {A : Type 0} (sizes : ℕ → ℕ) (b c : ℕ → ℕ → A) (ps qs : List (Piece A)) → AllFit sizes ps → AllFit sizes qs
    → ((object place : ℕ) → place < sizes object → last_item object place (b object place) ps ≡ last_item object place (c object place) qs)
    → SamePhase (record { sizes = sizes; base = b; pieces = ps }) (record { sizes = sizes; base = c; pieces = qs })
SamePhase-all sizes b c ps qs fit_p fit_q same = grind (arith, (append-nil ps), (append-nil qs), (SamePhase-prefix sizes b c ps qs [] fit_p fit_q same))

module _ (options : ImageOptions) (imports : ℕ) (memories : List ImageMemory) (active : List ActiveSegment) (passive : List (List ℕ)) (plan : MemoryPlan)
    (page : IsPowerOfTwo options.page) where
  agrees-images : plan.sizes ≡ map size_of memories → PlansImages options imports memories active passive plan → AgreesOver imports (map size_of memories) active plan
  agrees-images sizes h =
      let mapped : image_pieces plan 0 plan.images ≡ pieces_from 0 h.images = rw h.in_map (map-pieces plan h.images [] passive 0 0 refl h.runtime) in
      let listed : (place_of : Expression → ℕ) → map (planned_piece place_of plan) plan.segments ≡ pieces_from 0 h.images =
      λ place_of. rw h.in_list (entry-pieces plan place_of plan.images 0 ∙ mapped) in
      let left : kept_segments plan ≡ [] = rw h.in_list (none-left plan plan.images 0) in
      record {
        by_map = λ globals fields imported count.
            let same = pieces-over imports memories globals fields active h.static.placed in
            rw (sizes, mapped, left, same)
            (SamePhase-all (memory_sizes imported (map size_of memories)) (memory_base imported)
            (λ object place. last_item object place (memory_base imported object place) (pieces_from 0 h.images)) (map (piece_of offset_of) active) []
            (fit-placed imports memories imported active count h.static.placed) tt
            (same-contents options imports memories active h.static page h.images h.are_images imported count));
        by_list = λ globals fields imported count.
            let same = pieces-over imports memories globals fields active h.static.placed in
            let entries = listed (offset_over globals fields) in
            rw (sizes, entries, same)
            (SamePhase-all (memory_sizes imported (map size_of memories)) (memory_base imported) (memory_base imported) (map (piece_of offset_of) active) (pieces_from 0 h.images)
            (fit-placed imports memories imported active count h.static.placed)
            (fit-images options imports memories active h.static page h.images h.are_images imported count)
            (same-contents options imports memories active h.static page h.images h.are_images imported count));
      }

  pub agrees : IsMemoryPlan options imports memories active passive plan → AgreesOver imports (map size_of memories) active plan
  agrees h = grind (arith, agrees-images, AgreesOver-kept)

-- under the rule no segment traps
pub no-trap : (options : ImageOptions) (imports : ℕ) (memories : List ImageMemory) (active : List ActiveSegment) → IsStatic options imports memories active
    → (globals : List Value) (fields : ℕ → ℕ) (imported : List (List ℕ)) → length imported ≡ imports
    → trap_of (segments_phase (offset_over globals fields) imported (map size_of memories) active) ≡ None
no-trap options imports memories active static globals fields imported count =
    let e = trap-fit (memory_sizes imported (map size_of memories)) (map (piece_of offset_of) active) [] (fit-placed imports memories imported active count static.placed) in
    let same = pieces-over imports memories globals fields active static.placed in
    rw same (rw append-nil at e)

-- sizes by the definitions of a module
pub sizes-module : (types : List MemoryType) → map size_of (map image_memory_of types) ≡ map minimum_size types
sizes-module [] = refl
sizes-module (t ∷ ts) = ap (λ ns. minimum_size t ∷ ns) (sizes-module ts)

pub agrees-module : (options : ImageOptions) (m : Module) (passive : List (List ℕ)) (plan : MemoryPlan) → IsPowerOfTwo options.page
    → IsMemoryPlan options (length (imported_memories m)) (map image_memory_of (defined_memories m)) (held_segments m) passive plan → Agrees m plan
agrees-module options m passive plan page h = agrees-held (length (imported_memories m)) (map minimum_size (defined_memories m)) (active_segments m) plan
    (subst (λ sizes. AgreesOver (length (imported_memories m)) sizes (held_segments m) plan) (sizes-module (defined_memories m))
    (agrees options (length (imported_memories m)) (map image_memory_of (defined_memories m)) (held_segments m) passive plan page h))
