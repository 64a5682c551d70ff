-- A memory has one image at most, and the runtime data of a plan are determined.
use Rattle.std.proofs.Common.{◌≡◌, ℕ, suc, ◌+◌, ◌*◌, ◌/◌, ◌<◌, List, [], ◌∷◌, ◌++◌, length, get_or, Option, None, ◌⊎◌, inl, inr, refl, sym, ◌∙◌, ap, arith}
use Rattle.std.proofs.lemmas.Bool.{cases_lt}
use Rattle.std.proofs.lemmas.Option.{slice_get-get_or}
use Rattle.replay_spec.specs.Data.{ActiveSegment}
use Rattle.replay_spec.specs.Plan.{MemoryPlan}
use Rattle.replay_spec.specs.Images.{ImageOptions, ImageMemory, MemoryImage, IsFirst, IsLast, IsImage, ImageOf, AreImages, written_on, image_bytes, PlansImages, PlansSegments, IsMemoryPlan}

pub same-list : {X : Type 0} (d : X) (xs ys : List X) → length xs ≡ length ys → ((i : ℕ) → i < length xs → get_or xs i d ≡ get_or ys i d) → xs ≡ ys
same-list d [] [] n each = refl
same-list d [] (y ∷ ys) n each = absurd (omega arith)
same-list d (x ∷ xs) [] n each = absurd (omega arith)
same-list d (x ∷ xs) (y ∷ ys) n each =
    let head : x ≡ y = each 0 (omega arith) in
    let tail : xs ≡ ys = same-list d xs ys (omega arith) (λ i l. each (suc i) (omega arith)) in
    rw (head, tail) refl

pub same-first : (c : ℕ → ℕ) (f g : ℕ) → IsFirst c f → IsFirst c g → f ≡ g
same-first c f g a b = grind (arith, cases_lt)

pub same-last : (c : ℕ → ℕ) (f g : ℕ) → IsLast c f → IsLast c g → f ≡ g
same-last c f g a b = grind (arith, cases_lt)

one-image : (page : ℕ) (c : ℕ → ℕ) (x y : MemoryImage) → IsImage page c x → IsImage page c y → x ≡ y
one-image page c x y a b =
    let first : a.first ≡ b.first = same-first c a.first b.first a.is_first b.is_first in
    let last : a.last ≡ b.last = same-last c a.last b.last a.is_last b.is_last in
    let start : x.start ≡ y.start = a.start ∙ ap (λ n. n / page * page) first ∙ sym b.start in
    let end : x.start + length x.bytes ≡ y.start + length y.bytes = a.end ∙ ap (λ n. (n / page + 1) * page) last ∙ sym b.end in
    let bytes : x.bytes ≡ y.bytes = same-list 0 x.bytes y.bytes (omega arith)
    (λ i l. a.bytes i l ∙ ap (λ n. c (n + i)) start ∙ sym (b.bytes i (omega arith))) in
    rebuilt x.start y.start x.bytes y.bytes start bytes where
      rebuilt : (s t : ℕ) (u v : List ℕ) → s ≡ t → u ≡ v → ◌≡◌ {A = MemoryImage} (record { start = s; bytes = u }) (record { start = t; bytes = v })
      rebuilt s t u v e f = rw (e, f) refl

one-option : (page : ℕ) (c : ℕ → ℕ) (x y : Option MemoryImage) → ImageOf page c x → ImageOf page c y → x ≡ y
one-option page c x y h1 h2 = grind (arith, one-image)

pub one-list : (page memories : ℕ) (active : List ActiveSegment) (xs ys : List (Option MemoryImage)) → AreImages page memories active xs → AreImages page memories active ys → xs ≡ ys
one-list page memories active xs ys a b =
    let n = a.count in
    let m = b.count in
    same-list None xs ys (omega arith)
    (λ i l. one-option page (written_on active i) (get_or xs i None) (get_or ys i None)
    (a.each i (get_or xs i None) (slice_get-get_or xs i None l)) (b.each i (get_or ys i None) (slice_get-get_or ys i None (omega arith))))

module _ (options : ImageOptions) (imports : ℕ) (memories : List ImageMemory) (active : List ActiveSegment) (passive : List (List ℕ)) where
  pub one-runtime : (p q : MemoryPlan) → IsMemoryPlan options imports memories active passive p → IsMemoryPlan options imports memories active passive q
      → p.runtime ≡ q.runtime
  one-runtime p q hp hq = by hp.segments hq.segments where
    by : PlansImages options imports memories active passive p ⊎ PlansSegments options imports memories active passive p
        → PlansImages options imports memories active passive q ⊎ PlansSegments options imports memories active passive q → p.runtime ≡ q.runtime
    by (inl a) (inl b) = a.runtime
        ∙ ap (λ (images : List (Option MemoryImage)). image_bytes images ++ passive) (one-list options.page (imports + length memories) active a.images b.images a.are_images b.are_images)
        ∙ sym b.runtime
    by (inr a) (inr b) = a.runtime ∙ sym b.runtime
    by (inl a) (inr b) = absurd (b.not_static a.static)
    by (inr a) (inl b) = absurd (a.not_static b.static)
