-- The extent and the byte count of the pieces are those of their segments.
use Rattle.std.proofs.Common.{◌≡◌, ℕ, ◌+◌, ◌-◌, ◌^◌, ◌<◌, ◌≤◌, List, [], ◌∷◌, length, map, sum_by, fold, min, max, All, refl, sym, ◌∙◌, ap, subst, arith}
use Rattle.std.proofs.lemmas.List.Folds.{fold-map}
use Rattle.replay_spec.specs.Phases.{Piece}
use Rattle.replay_spec.specs.Data.{ActiveSegment}
use Rattle.replay_spec.specs.Images.{start_of, end_of, least_start, greatest_end, extent, data_size}
use Rattle.memory_images.specs.declared.placed_segment.PlacedSegment.{PlacedSegment}
use Rattle.memory_images.specs.Contents.{piece_of, end_of as laid_end}
use Rattle.memory_images.specs.Layout.{laid_piece}
use Rattle.std.proofs.lemmas.List.Elements.{All-map}

-- the least start, or the greatest 64-bit number if that is less
abbrev pub low_of : List PlacedSegment → ℕ
low_of laid = fold (λ n x. min n x.start) (2 ^ 64 - 1) laid

abbrev pub high_of : List PlacedSegment → ℕ
high_of laid = fold (λ n x. max n (laid_end x)) 0 laid

abbrev pub data_of : List PlacedSegment → ℕ
data_of laid = sum_by (λ x. length x.bytes.now) laid

abbrev lower : ℕ → Piece ℕ → ℕ
lower n p = min n p.offset

abbrev higher : ℕ → Piece ℕ → ℕ
higher n p = max n (p.offset + length p.items)

abbrev counted : ℕ → Piece ℕ → ℕ
counted n p = n + length p.items

low-fold : (acc : ℕ) (s : ActiveSegment) (ss : List ActiveSegment) → fold lower acc (map laid_piece (s ∷ ss)) ≡ min acc (least_start (s ∷ ss))
low-fold acc s [] = refl
low-fold acc s (t ∷ ss) = let more = low-fold (min acc (start_of s)) t ss in omega (arith, more)

high-fold : (acc : ℕ) (ss : List ActiveSegment) → fold higher acc (map laid_piece ss) ≡ max acc (greatest_end ss)
high-fold acc [] = omega arith
high-fold acc (s ∷ ss) = let more = high-fold (max acc (end_of s)) ss in omega (arith, more)

module _ (laid : List PlacedSegment) (ss : List ActiveSegment) (same : map piece_of laid ≡ map laid_piece ss) (fits : All (λ x. laid_end x < 2 ^ 64) laid) where
  small : (ss : List ActiveSegment) → All (λ p. p.offset + length p.items < 2 ^ 64) (map laid_piece ss) → least_start ss ≤ 2 ^ 64 - 1
  small [] all = omega arith
  small (s ∷ []) all = let f = all 0 (laid_piece s) (omega arith) in omega (arith, f)
  small (s ∷ t ∷ ss) all = let f = all 0 (laid_piece s) (omega arith) in omega (arith, f)

  pub extent_same : high_of laid - low_of laid ≡ extent ss
  extent_same =
      let low : low_of laid ≡ fold lower (2 ^ 64 - 1) (map laid_piece ss) = sym (fold-map lower piece_of (2 ^ 64 - 1) laid) ∙ ap (fold lower (2 ^ 64 - 1)) same in
      let high : high_of laid ≡ fold higher 0 (map laid_piece ss) = sym (fold-map higher piece_of 0 laid) ∙ ap (fold higher 0) same in
      over ss (subst (All (λ p. p.offset + length p.items < 2 ^ 64)) same (All-map (λ p. p.offset + length p.items < 2 ^ 64) piece_of laid fits)) low high where
        over : (ss : List ActiveSegment) → All (λ p. p.offset + length p.items < 2 ^ 64) (map laid_piece ss) → low_of laid ≡ fold lower (2 ^ 64 - 1) (map laid_piece ss)
            → high_of laid ≡ fold higher 0 (map laid_piece ss) → high_of laid - low_of laid ≡ extent ss
        over [] all low high = omega (arith, low, high)
        over (s ∷ ss) all low high = grind (arith, low-fold (2 ^ 64 - 1) s ss, high-fold 0 (s ∷ ss), small (s ∷ ss) all)

  pub data_same : data_of laid ≡ data_size ss
  data_same = sym (fold-map counted piece_of 0 laid) ∙ ap (fold counted 0) same ∙ fold-map counted laid_piece 0 ss
