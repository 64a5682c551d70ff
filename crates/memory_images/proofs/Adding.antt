-- One more segment among the bytes of its memory.
use Rattle.std.proofs.Common.{◌≡◌, ◌≢◌, ℕ, ◌+◌, ◌-◌, ◌<◌, List, [], ◌∷◌, ◌++◌, length, map, refl, sym, ◌∙◌, ap, arith}
use Rattle.std.specs.Prelude.{slice_get, nat_lt, ◌==◌}
use Rattle.std.specs.Global.{Vec}
use Rattle.std.proofs.Math.Logic.{⊎_elim}
use Rattle.std.proofs.lemmas.Bool.{cases_eq, eq-eqb, ne_eqb, lt-ltb, le-ltb, and_from, and_left, and_right}
use Rattle.std.proofs.lemmas.List.{append-nil, length-map, map-append}
use Rattle.std.proofs.lemmas.List.Elements.{All-push, filter-append}
use Rattle.std.proofs.lemmas.Option.{slice_get_within}
use Rattle.replay_spec.specs.Data.{ActiveSegment}
use Rattle.replay_spec.specs.Images.{ImageMemory, IsPlaced, bytes_on, start_of}
use Rattle.wasm_types.specs.declared.memory.Memory.{Memory}
use Rattle.memory_images.specs.declared.placed_segment.PlacedSegment.{PlacedSegment}
use Rattle.memory_images.specs.Contents.{piece_of, pieces_in}
use Rattle.memory_images.specs.Layout.{AreLaid, AddsSegment, laid_piece, unless_empty}
use Rattle.memory_images.specs.Views.{image_memory}
use Rattle.memory_images.proofs.Lists.{some_at}

module _ (x : PlacedSegment) (s : ActiveSegment) (start : start_of s ≡ x.start) (bytes : x.bytes.now ≡ s.bytes) where
  -- a segment writes its bytes into its own memory
  here : map piece_of (unless_empty x) ≡ map laid_piece (bytes_on s.memory (s ∷ []))
  here = grind (arith, eq-eqb, lt-ltb, and_from, le-ltb, and_right)

  -- and no bytes into another memory
  elsewhere : (m : ℕ) → s.memory ≢ m → bytes_on m (s ∷ []) ≡ []
  elsewhere m off = let test = and_left (s.memory == m) (nat_lt 0 (length s.bytes)) (ne_eqb s.memory m off) in rw test refl

  added : (all all' : List (Vec PlacedSegment)) (m : ℕ) → s.memory < length all → AddsSegment all all' s.memory x → pieces_in (slice_get all' m) ≡ pieces_in (slice_get all m) ++ map laid_piece (bytes_on m (s ∷ []))
  added all all' m within adds = ⊎_elim
      (λ (on : s.memory ≡ m).
      let n = adds.count in
      let v = some_at all s.memory within in
      let w = some_at all' s.memory (omega arith) in
      rw (← on) (ap pieces_in w.1 ∙ ap (map piece_of) (adds.here v.0 w.0 v.1 w.1) ∙ map-append piece_of v.0.items (unless_empty x)
      ∙ ap (λ ps. ps ++ map piece_of (unless_empty x)) (sym (ap pieces_in v.1)) ∙ ap (λ ps. pieces_in (slice_get all s.memory) ++ ps) here))
      (λ (off : s.memory ≢ m).
      grind (arith, append-nil, elsewhere))
      (cases_eq s.memory m)

  pub more : (imports : ℕ) (memories : List ImageMemory) (ss : List ActiveSegment) (all all' : List (Vec PlacedSegment)) → IsPlaced imports memories s → s.memory < length all
      → AddsSegment all all' s.memory x → AreLaid imports memories ss all → AreLaid imports memories (ss ++ s ∷ []) all'
  more imports memories ss all all' p within adds laid = record {
    placed = All-push (IsPlaced imports memories) ss s laid.placed p;
    count = adds.count ∙ laid.count;
    each = grind (arith, added, filter-append, map-append);
  }

-- a placed segment is in one of the memories
pub in_range : (imports : ℕ) (memories : List Memory) (s : ActiveSegment) → IsPlaced imports (map image_memory memories) s → s.memory < imports + length memories
in_range imports memories s p = grind (arith, slice_get_within, length-map)
