-- Numbers that are sorted, each once.
use Rattle.std.proofs.Common.{◌≡◌, ℕ, eqb, List, sym, subst}
use Rattle.std.specs.List.{dedup}
use Rattle.std.specs.List.Sorted.{IsPermutation, IsSorted}
use Rattle.std.specs.Ordering.{nat_cmp}
use Rattle.std.proofs.lemmas.List.Kept.{AllPairs-from_increasing, Contains-dedup_nat, Contains-from_dedup}
use Rattle.std.proofs.lemmas.List.Sorted.{Contains-permutation, IsPermutation-sym}
use Rattle.std.proofs.lemmas.Map.Keys.{IsStrictlyIncreasing-dedup}
use Rattle.segment_tables.specs.References.{ListsOnce}

pub listed : (xs ys zs : List ℕ) → IsPermutation xs ys → IsSorted nat_cmp ys → zs ≡ dedup eqb ys → ListsOnce xs zs
listed xs ys zs moved sorted is = subst (ListsOnce xs) (sym is) (record {
  ascend = λ i j lt in'. AllPairs-from_increasing (dedup eqb ys) (IsStrictlyIncreasing-dedup ys sorted) i j 0 lt in';
  exact = λ k. (
    λ h. Contains-permutation ys xs k (IsPermutation-sym xs ys moved) (Contains-from_dedup eqb ys k h),
    λ h. Contains-dedup_nat ys k (Contains-permutation xs ys k moved h),
  );
})
