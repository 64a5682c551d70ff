-- The image rule, memory by memory.
use Rattle.std.proofs.Common.{◌≡◌, ◌≢◌, ℕ, ◌+◌, ◌^◌, ◌<◌, List, [], length, map, get_or, All, Some, refl, sym, ◌∙◌, ap, subst, arith}
use Rattle.std.specs.Prelude.{slice_get, nat_lt, ◌==◌, ◌&&◌}
use Rattle.std.specs.Global.{Vec}
use Rattle.std.specs.Option.{option_map}
use Rattle.std.proofs.lemmas.List.{length-map}
use Rattle.std.proofs.lemmas.List.Elements.{All-filter, All-map}
use Rattle.std.proofs.lemmas.Option.{slice_get-map, slice_get-get_or, slice_get_read}
use Rattle.replay_spec.specs.Phases.{Piece}
use Rattle.replay_spec.specs.Data.{ActiveSegment}
use Rattle.replay_spec.specs.Images.{ImageOptions, ImageMemory, IsPlaced, bytes_on, end_of, MayBeImage}
use Rattle.replay_spec.proofs.Placed.{start-placed}
use Rattle.wasm_types.specs.declared.memory.Memory.{Memory}
use Rattle.memory_images.specs.declared.placed_segment.PlacedSegment.{PlacedSegment}
use Rattle.memory_images.specs.Contents.{piece_of, pieces_in, end_of as laid_end}
use Rattle.memory_images.specs.Layout.{AreLaid, laid_piece}
use Rattle.memory_images.specs.Views.{image_memory}
use Rattle.memory_images.proofs.Lists.{all_mapped}

-- there are pieces exactly where there are segments
pub some_laid : (laid : List PlacedSegment) (ss : List ActiveSegment) → map piece_of laid ≡ map laid_piece ss → 0 < length laid → ss ≢ []
some_laid laid ss same some none = grind (arith, length-map)

-- placed segments end at 64-bit numbers
abbrev Fits : Piece ℕ → Type 0
Fits p = p.offset + length p.items < 2 ^ 64

module _ (imports : ℕ) (memories : List ImageMemory) (active : List ActiveSegment) (all : List (Vec PlacedSegment)) (are : AreLaid imports memories active all) where
  pub all_fit : All (λ laid. All (λ x. laid_end x < 2 ^ 64) laid.items) all
  all_fit m d l k e i = all_mapped piece_of Fits (get_or all m d).items k e (subst (All Fits) (sym (are.each m) ∙ ap pieces_in (slice_get-get_or all m d l)) segments) i where
    ends : (s : ActiveSegment) → IsPlaced imports memories s → end_of s < 2 ^ 64
    ends s p = grind (arith, start-placed imports memories s p)

    segments : All Fits (map laid_piece (bytes_on m active))
    segments = All-map Fits laid_piece (bytes_on m active)
        (All-filter (λ s. s.memory == m && nat_lt 0 (length s.bytes)) (λ s. end_of s < 2 ^ 64) active (λ k s l. ends (get_or active k s) (are.placed k s l)))

  pub laid_same : (m : ℕ) (laid : Vec PlacedSegment) → m < length all → laid ≡ get_or all m laid → map piece_of laid.items ≡ map laid_piece (bytes_on m active)
  laid_same m laid l is = sym (ap pieces_in (slice_get_read all (length all) m laid refl l is)) ∙ are.each m

pub memory_at : (defined : List Memory) (m : ℕ) (d : Memory) → m < length defined → slice_get (map image_memory defined) m ≡ Some (image_memory (get_or defined m d))
memory_at defined m d l = slice_get-map image_memory defined m ∙ ap (option_map image_memory) (slice_get-get_or defined m d l)

pub may_here : (options : ImageOptions) (memories : List ImageMemory) (m : ℕ) (first memory : ImageMemory) (ss : List ActiveSegment) → slice_get memories m ≡ Some first
    → slice_get memories m ≡ Some memory → (ss ≢ [] → MayBeImage options first ss) → ss ≢ [] → MayBeImage options memory ss
may_here options memories m first memory ss at found may = grind arith
