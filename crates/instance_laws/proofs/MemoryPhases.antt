-- The data phases of a module and of its plan, over memories at addresses.
use Rattle.std.proofs.Common.{◌≡◌, ◌∙◌, ℕ, suc, zero, ◌+◌, ◌-◌, ◌<◌, ◌≤◌, ◌⊎◌, List, [], ◌∷◌, ◌++◌, length, map, All, Option, None, Some, refl, sym, subst, ap, arith}
use Rattle.std.specs.Prelude.{replicate, slice_get, slice_index}
use Rattle.std.specs.Int.{IsPowerOfTwo}
use Rattle.std.proofs.Math.Logic.{⊎_elim}
use Rattle.std.proofs.lemmas.List.{length-map}
use Rattle.wasm_spec.specs.Module.{Expression}
use Rattle.replay_spec.specs.Phases.{Piece, Phase, SamePhase, last_item, before_trap, trap, trap_of, content_of}
use Rattle.replay_spec.specs.Values.{Value, offset_over}
use Rattle.replay_spec.specs.Data.{ActiveSegment, piece_of, memory_sizes, memory_base, segments_phase}
use Rattle.replay_spec.specs.Plan.{MemoryPlan, planned_piece, image_pieces, kept_segments, phase_by_list, phase_by_map, AgreesOver}
use Rattle.replay_spec.specs.Images.{ImageOptions, ImageMemory, size_of, IsPlaced, IsStatic, MemoryImage, AreImages, PlansImages, PlansSegments, IsMemoryPlan}
use Rattle.replay_spec.proofs.Placed.{all-head, all-tail, base-defined}
use Rattle.replay_spec.proofs.Laid.{image_piece, pieces_from, map-pieces, entry-pieces, none-left}
use Rattle.replay_spec.proofs.Joined.{home, agrees}
use Rattle.replay_spec.proofs.Kept.{KeepsAll, kept_segments-all, pieces}
use Rattle.instance_laws.specs.Objects.{Objects, Addresses, AreFree, allocated, addressed, phase_over}
use Rattle.instance_laws.specs.Instances.{after, SameObjects}
use Rattle.instance_laws.proofs.Addressed.{index_sizes, OnOwn, before-own, own-leaves}
use Rattle.instance_laws.proofs.Alike.{IsByIndex, LeaveAlike, same-traps, same-objects}
use Rattle.instance_laws.proofs.TablePhases.{filled, lengths-filled}

module _ (a : Addresses) (objects : Objects ℕ) (free : AreFree a objects) (globals : List Value) (fields : ℕ → ℕ) (options : ImageOptions)
    (memories : List ImageMemory) (active : List ActiveSegment) (passive : List (List ℕ)) (plan : MemoryPlan) (page : IsPowerOfTwo options.page)
    (h : IsMemoryPlan options (length a.imported) memories active passive plan) where
  abbrev contents : List (List ℕ)
  contents = filled objects 0 a.imported

  count : length contents ≡ length a.imported
  count = length-map a.imported (λ at. replicate (objects.sizes at) 0)

  abbrev place_of : Expression → ℕ
  place_of = offset_over globals fields

  abbrev sizes_of_all : List ℕ
  sizes_of_all = map size_of memories

  abbrev of_module : List (Piece ℕ)
  of_module = map (piece_of place_of) active

  memory-sizes : (ns : List ℕ) → ns ≡ sizes_of_all → memory_sizes contents ns ≡ index_sizes a objects sizes_of_all
  memory-sizes ns e = ap {B = ℕ → ℕ} (λ (xs : List ℕ) (i : ℕ). slice_index (map length contents ++ xs) i) e
      ∙ ap {B = ℕ → ℕ} (λ (xs : List ℕ) (i : ℕ). slice_index (xs ++ sizes_of_all) i) (lengths-filled objects 0 a.imported)

  -- own memories hold zeros, with images over them
  by-index : (ns : List ℕ) → ns ≡ sizes_of_all → (laid ps : List (Piece ℕ))
      → IsByIndex a objects sizes_of_all (λ k place. last_item (length a.imported + k) place 0 laid) ps
      (record { sizes = memory_sizes contents ns; base = λ object place. last_item object place (memory_base contents object place) laid; pieces = ps })
  by-index ns e laid ps =
      let sizes = memory-sizes ns e in
      record {
        same_sizes = λ i. ap (λ (s : ℕ → ℕ). s i) sizes;
        traps = ap (λ (s : ℕ → ℕ). trap s ps) sizes;
        base = λ k place.
            let zeros : memory_base contents (length a.imported + k) place ≡ 0 = base-defined contents (length a.imported + k) place (omega (arith, count)) in
            ap (λ (s : ℕ → ℕ). last_item (length a.imported + k) place (last_item (length a.imported + k) place (memory_base contents (length a.imported + k) place) laid) (before_trap s ps)) sizes
            ∙ ap (λ (d : ℕ). last_item (length a.imported + k) place (last_item (length a.imported + k) place d laid) (before_trap (index_sizes a objects sizes_of_all) ps)) zeros;
      }

  -- ---- images are on own memories

  own-placed : (ss : List ActiveSegment) → All (IsPlaced (length a.imported) memories) ss → OnOwn (length a.imported) (map (piece_of place_of) ss)
  own-placed [] all = tt
  own-placed (s ∷ ss) all = ((all-head (IsPlaced (length a.imported) memories) s ss all).defined, own-placed ss (all-tail (IsPlaced (length a.imported) memories) s ss all))

  own-from : (images : List (Option MemoryImage)) (n : ℕ)
      → ((object j : ℕ) (image : MemoryImage) → n + j ≡ object → slice_get images j ≡ Some (Some image) → length a.imported ≤ object)
      → OnOwn (length a.imported) (pieces_from n images)
  own-from [] n each = tt
  own-from (None ∷ images) n each = own-from images (n + 1) (λ object j image is at. each object (suc j) image (omega arith) at)
  own-from (Some image ∷ images) n each = (
    each n 0 image (omega arith) refl,
    own-from images (n + 1) (λ object j image is at. each object (suc j) image (omega arith) at),
  )

  own-images : (p : PlansImages options (length a.imported) memories active passive plan) → OnOwn (length a.imported) (pieces_from 0 p.images)
  own-images p = own-from p.images 0 (λ object j image is at.
      let e : j ≡ object = omega arith in
      subst (λ (m : ℕ). length a.imported ≤ m) e
      (home options (length a.imported) memories active p.static page j image (p.are_images.each j (Some image) at)).defined)

  -- ---- what a plan writes, and what is in its memories

  -- pieces on own memories leave what none leaves
  on-own : (ps : List (Piece ℕ)) → OnOwn (length a.imported) ps → All (IsPlaced (length a.imported) memories) active → LeaveAlike a objects sizes_of_all of_module ps
  on-own ps own placed at place lt =
      own-leaves a (before_trap (index_sizes a objects sizes_of_all) of_module) (before-own (length a.imported) (index_sizes a objects sizes_of_all) of_module (own-placed active placed)) at place (objects.items at place) lt
      ∙ sym (own-leaves a (before_trap (index_sizes a objects sizes_of_all) ps) (before-own (length a.imported) (index_sizes a objects sizes_of_all) ps own) at place (objects.items at place) lt)

  keeps : PlansSegments options (length a.imported) memories active passive plan → KeepsAll sizes_of_all active plan
  keeps s = record { sizes = h.sizes; no_images = s.in_map; segments = s.in_list; passive = passive; runtime = s.runtime }

  listed : PlansImages options (length a.imported) memories active passive plan → OnOwn (length a.imported) (map (planned_piece place_of plan) plan.segments)
  listed p = rw (p.in_list, entry-pieces plan place_of plan.images 0, p.in_map, map-pieces plan p.images [] passive 0 0 refl p.runtime) (own-images p)

  pub alike-by-map : LeaveAlike a objects sizes_of_all of_module (map (piece_of place_of) (kept_segments plan))
  alike-by-map = ⊎_elim
      (λ (p : PlansImages options (length a.imported) memories active passive plan).
      let left : kept_segments plan ≡ [] = rw p.in_list (none-left plan plan.images 0) in
      rw left (on-own [] tt p.static.placed))
      (λ (s : PlansSegments options (length a.imported) memories active passive plan).
      let all : kept_segments plan ≡ active = kept_segments-all sizes_of_all active plan (keeps s) in
      rw all (λ at place lt. refl))
      h.segments

  pub alike-by-list : LeaveAlike a objects sizes_of_all of_module (map (planned_piece place_of plan) plan.segments)
  alike-by-list = ⊎_elim
      (λ (p : PlansImages options (length a.imported) memories active passive plan). on-own (map (planned_piece place_of plan) plan.segments) (listed p) p.static.placed)
      (λ (s : PlansSegments options (length a.imported) memories active passive plan).
      let all : map (planned_piece place_of plan) plan.segments ≡ of_module = rw s.in_list (pieces plan place_of active [] passive 0 refl s.runtime) in
      rw all (λ at place lt. refl))
      h.segments

  -- ---- what instances hold after the data phase

  abbrev pub zeros : ℕ → ℕ → ℕ
  zeros k place = 0

  -- what an image puts into an own memory
  abbrev pub laid : ℕ → ℕ → ℕ
  laid k place = last_item (length a.imported + k) place 0 (image_pieces plan 0 plan.images)

  abbrev memories_with : (ℕ → ℕ → ℕ) → Objects ℕ
  memories_with initial = allocated objects a.first sizes_of_all initial

  module-by-index : IsByIndex a objects sizes_of_all zeros of_module (segments_phase place_of contents sizes_of_all active)
  module-by-index = by-index sizes_of_all refl [] of_module

  map-by-index : IsByIndex a objects sizes_of_all laid (map (piece_of place_of) (kept_segments plan)) (phase_by_map place_of contents plan)
  map-by-index = by-index plan.sizes h.sizes (image_pieces plan 0 plan.images) (map (piece_of place_of) (kept_segments plan))

  list-by-index : IsByIndex a objects sizes_of_all zeros (map (planned_piece place_of plan) plan.segments) (phase_by_list place_of contents plan)
  list-by-index = by-index plan.sizes h.sizes [] (map (planned_piece place_of plan) plan.segments)

  abbrev agreed : AgreesOver (length a.imported) sizes_of_all active plan
  agreed = agrees options (length a.imported) memories active passive plan page h

  pub same-by-map : SameObjects (λ at. ⊥) (after a (memories_with zeros) of_module) (after a (memories_with laid) (map (piece_of place_of) (kept_segments plan)))
  same-by-map = same-objects a objects free sizes_of_all zeros laid of_module (map (piece_of place_of) (kept_segments plan))
      (segments_phase place_of contents sizes_of_all active) (phase_by_map place_of contents plan) module-by-index map-by-index (agreed.by_map globals fields contents count) alike-by-map

  pub traps-by-map : trap_of (phase_over a (memories_with zeros) of_module) ≡ trap_of (phase_over a (memories_with laid) (map (piece_of place_of) (kept_segments plan)))
  traps-by-map = same-traps a objects free sizes_of_all zeros laid of_module (map (piece_of place_of) (kept_segments plan))
      (segments_phase place_of contents sizes_of_all active) (phase_by_map place_of contents plan) module-by-index map-by-index (agreed.by_map globals fields contents count)

  pub same-by-list : SameObjects (λ at. ⊥) (after a (memories_with zeros) of_module) (after a (memories_with zeros) (map (planned_piece place_of plan) plan.segments))
  same-by-list = same-objects a objects free sizes_of_all zeros zeros of_module (map (planned_piece place_of plan) plan.segments)
      (segments_phase place_of contents sizes_of_all active) (phase_by_list place_of contents plan) module-by-index list-by-index (agreed.by_list globals fields contents count) alike-by-list

  pub traps-by-list : trap_of (phase_over a (memories_with zeros) of_module) ≡ trap_of (phase_over a (memories_with zeros) (map (planned_piece place_of plan) plan.segments))
  traps-by-list = same-traps a objects free sizes_of_all zeros zeros of_module (map (planned_piece place_of plan) plan.segments)
      (segments_phase place_of contents sizes_of_all active) (phase_by_list place_of contents plan) module-by-index list-by-index (agreed.by_list globals fields contents count)
