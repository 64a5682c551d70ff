-- Bytes that replace zeros one by one.
use Rattle.std.proofs.Common.{◌≡◌, ◌∙◌, ◌<◌, ℕ, zero, suc, ◌+◌, ◌-◌, List, [], ◌∷◌, ◌++◌, length, get_or, set, take, replicate, refl, ap, arith}

filled : (bs : List ℕ) (k m : ℕ) → k < length bs → set (take k bs ++ replicate (suc m) 0) k (get_or bs k 0) ≡ take (suc k) bs ++ replicate m 0
filled [] k m lt = absurd (omega (arith, lt))
filled (b ∷ bs) zero m lt = refl
filled (b ∷ bs) (suc k) m lt = ap (λ l. b ∷ l) (filled bs k m (omega (arith, lt)))

pub filled-one : (bs word : List ℕ) (k n : ℕ) → k < length bs → length bs < n → word ≡ take k bs ++ replicate (n - k) 0
    → set word k (get_or bs k 0) ≡ take (k + 1) bs ++ replicate (n - (k + 1)) 0
filled-one bs word k n lt few is =
    let m = n - (k + 1) in
    let left : n - k ≡ suc m = omega (arith, lt, few) in
    let one : suc k ≡ k + 1 = omega arith in
    ap (λ w. set w k (get_or bs k 0)) (is ∙ ap (λ x. take k bs ++ replicate x 0) left) ∙ filled bs k m lt ∙ ap (λ x. take x bs ++ replicate m 0) one
