-- The images of the pieces are those of the segments.
use Rattle.std.proofs.Common.{◌≡◌, ℕ, ◌+◌, ◌^◌, ◌<◌, true, false, List, [], ◌∷◌, length, map, sum_by, Option, None, Some, Result, Ok, Err, refl, sym, ◌∙◌, ap, subst, arith}
use Rattle.std.specs.Prelude.{unwrap_or, nat_lt, ◌==◌, ◌&&◌, IfOk, IfSome, IfNone}
use Rattle.std.specs.Global.{Vec}
use Rattle.std.proofs.Math.Logic.{⊎_elim}
use Rattle.std.proofs.lemmas.Bool.{cases_Bool, lt-ltb, eq-eqb, and_from, and_parts, false≢true}
use Rattle.replay_spec.specs.Phases.{item_at, last_item}
use Rattle.replay_spec.specs.Values.{offset_of}
use Rattle.replay_spec.specs.Data.{ActiveSegment, piece_of}
use Rattle.replay_spec.specs.Images.{ImageOptions, ImageMemory, IsStatic, bytes_on, MemoryImage, written_on, ImageOf, AreImages, image_bytes}
use Rattle.replay_spec.proofs.Covering.{CoversAt, item-cover}
use Rattle.memory_images.specs.declared.placed_segment.PlacedSegment.{PlacedSegment}
use Rattle.memory_images.specs.Contents.{contents_at}
use Rattle.memory_images.specs.Images.{AreListed}
use Rattle.memory_images.specs.Layout.{AreLaid, laid_piece}
use Rattle.memory_images.specs.Past.{PassesAt, ImagesPassAt}

-- the segments leave in a memory what its segments that are not empty write
moved : (active : List ActiveSegment) (m place d : ℕ) → last_item m place d (map (piece_of offset_of) active) ≡ last_item 0 place d (map laid_piece (bytes_on m active))
moved [] m place d = refl
moved (s ∷ rest) m place d = ⊎_elim
    (λ (test : (s.memory == m && nat_lt 0 (length s.bytes)) ≡ true).
    grind (arith, and_parts, (moved rest m place (unwrap_or (item_at 0 place (laid_piece s)) d))))
    (λ (test : (s.memory == m && nat_lt 0 (length s.bytes)) ≡ false).
    let none : item_at m place (piece_of offset_of s) ≡ None = ⊎_elim (λ e. e)
    (λ (c : CoversAt m place (piece_of offset_of s)). grind (arith, eq-eqb, lt-ltb, and_from, false≢true))
    (item-cover m place (piece_of offset_of s)) in
    rw test (ap (λ o. last_item m place (unwrap_or o d) (map (piece_of offset_of) rest)) none ∙ moved rest m place d))
    (cases_Bool (s.memory == m && nat_lt 0 (length s.bytes)))

module _ (imports : ℕ) (memories : List ImageMemory) (active : List ActiveSegment) (all : List (Vec PlacedSegment)) (are : AreLaid imports memories active all)
    (n page : ℕ) (count : length all ≡ n) (images : List (Option MemoryImage)) where
  contents : contents_at all ≡ written_on active
  contents = λ i m place. (ap (last_item 0 place 0) (are.each m) ∙ sym (moved active m place 0)) i

  pub are_images : AreListed (λ m. ImageOf page (contents_at all m)) (length all) images → AreImages page n active images
  are_images h = record { count = h.count ∙ count; each = λ m image at. subst (λ c. ImageOf page (c m) image) contents (h.each m image at) }

  pub of_laid : AreImages page n active images → AreListed (λ m. ImageOf page (contents_at all m)) (length all) images
  of_laid h = record { count = h.count ∙ sym count; each = λ m image at. subst (λ c. ImageOf page (c m) image) (sym contents) (h.each m image at) }

-- images of the segments pass, or fit, where those of the pieces do
module _ (imports : ℕ) (memories : List ImageMemory) (active : List ActiveSegment) (all : List (Vec PlacedSegment)) (are : AreLaid imports memories active all)
    (options : ImageOptions) (passive : ℕ) {E : Type 0} where
  pub pass_here : IsStatic options imports memories active → (r : Result (Option ℕ) E)
      → IfOk r (λ o. IfSome o (λ k. (images : List (Option MemoryImage)) → AreListed (λ m. ImageOf options.page (contents_at all m)) (length all) images → PassesAt images passive k))
      → IfOk r (λ o. IfSome o (λ k. ImagesPassAt options imports memories active passive k))
  pass_here static (Ok None) h = tt
  pass_here static (Ok (Some k)) h = record {
    static = static;
    passes = λ images listed. h images (of_laid imports memories active all are (imports + length memories) options.page are.count images listed);
  }
  pass_here static (Err e) h = tt

  pub fit_here : (n : ℕ) → length all ≡ n → (r : Result (Option ℕ) E)
      → IfOk r (λ o. IfNone o ((images : List (Option MemoryImage)) → AreListed (λ m. ImageOf options.page (contents_at all m)) (length all) images
      → passive + sum_by length (image_bytes images) < 2 ^ 32))
      → IfOk r (λ o. IfNone o ((images : List (Option MemoryImage)) → IsStatic options imports memories active → AreImages options.page n active images
      → passive + sum_by length (image_bytes images) < 2 ^ 32))
  fit_here n count (Ok None) h = λ images _ listed. h images (of_laid imports memories active all are n options.page count images listed)
  fit_here n count (Ok (Some k)) h = tt
  fit_here n count (Err e) h = tt
