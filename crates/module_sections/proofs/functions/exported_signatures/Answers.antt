use Rattle.std.proofs.Common.{map, ◌≡◌, ℕ, ◌+◌, ◌<◌, Bool, eqb, List, [], ◌∷◌, length, get_or, refl, ap, sym, ◌∙◌, subst, arith}
use Rattle.std.specs.Prelude.{Contains}
use Rattle.std.specs.List.{dedup, dedup_from}
use Rattle.std.specs.List.Sorted.{IsPermutation, IsSorted}
use Rattle.std.specs.Ordering.{nat_cmp, is_lt}
use Rattle.std.proofs.lemmas.List.Filters.{dedup_is}
use Rattle.std.proofs.lemmas.List.{get_or-map, length-map}
use Rattle.std.proofs.lemmas.List.Kept.{AllPairs-from_increasing, Contains-dedup_nat, Contains-from_dedup}
use Rattle.std.proofs.lemmas.List.Sorted.{Contains-permutation, IsPermutation-sym, IsPermutation-map}
use Rattle.std.proofs.lemmas.Map.Keys.{IsStrictlyIncreasing-dedup}
use Rattle.wasm_spec.specs.Module as plain
use Rattle.wasm_index.specs.Index.{number_of, index_of}
use Rattle.interned_types.specs.Types.{interned_at}
use Rattle.module_sections.specs.Escapes.{AreSignatures}
use Rattle.module_sections.proofs.functions.exported_signatures.Goals as goal

-- values that compare by their numbers
module _ {X : Type 0} (number : X → ℕ) (some : X) where
  abbrev same : X → X → Bool
  same x y = eqb (number x) (number y)

  sorted-numbers : (xs : List X) → IsSorted (λ x y. nat_cmp (number x) (number y)) xs → IsSorted nat_cmp (map number xs)
  sorted-numbers xs sorted k d low lt =
      let lt' : k + 1 < length xs = subst (λ n. k + 1 < n) (length-map xs number) lt in
      ap (λ n. is_lt (nat_cmp n (get_or (map number xs) k d))) (get_or-map number xs (k + 1) some d lt')
      ∙ ap (λ n. is_lt (nat_cmp (number (get_or xs (k + 1) some)) n)) (get_or-map number xs k some d (omega (arith, lt')))
      ∙ sorted k some low lt'

  dedup-from : (k : X) (xs : List X) → map number (dedup_from same k xs) ≡ dedup_from eqb (number k) (map number xs)
  dedup-from k [] = refl
  dedup-from k (x ∷ xs) = grind (arith, dedup-from k xs, dedup-from x xs)

  dedup-numbers : (xs : List X) → map number (dedup same xs) ≡ dedup eqb (map number xs)
  dedup-numbers [] = refl
  dedup-numbers (x ∷ xs) = dedup-from x xs

  are-signatures : (escaping types : List ℕ) (xs ys zs : List X) → map number xs ≡ map (λ f. get_or types f 0) escaping → IsPermutation xs ys
      → IsSorted (λ x y. nat_cmp (number x) (number y)) ys → zs ≡ dedup same ys → AreSignatures escaping types (map number zs)
  are-signatures escaping types xs ys zs of moved sorted is =
      let ns = map number ys in
      let moved' = IsPermutation-map number xs ys moved in
      subst (AreSignatures escaping types) (sym (ap (map number) is ∙ dedup-numbers ys))
      (record {
        ascend = λ i j lt in'. AllPairs-from_increasing (dedup eqb ns) (IsStrictlyIncreasing-dedup ns (sorted-numbers ys sorted)) i j 0 lt in';
        exact = λ k. (
          λ h. subst (λ l. Contains l k) of
              (Contains-permutation ns (map number xs) k (IsPermutation-sym (map number xs) ns moved') (Contains-from_dedup eqb ns k h)),
          λ h. Contains-dedup_nat ns k (Contains-permutation (map number xs) ns k moved' (subst (λ l. Contains l k) (sym of) h)),
        );
      })

pub returns : goal.returns
returns c = λ m is of.
    are-signatures number_of (index_of 0) c.args.escaping.now.order (map (interned_at m) (plain.functions m)) c.in_ok-signatures.signatures.items
    c.sort_unstable.new.self.items c.dedup.new.self.items (c.in_ok-signatures.ensures m is of) c.sort_unstable.ensures.permutation
    c.sort_unstable.ensures.sorted (dedup_is _ _ _ c.dedup.ensures.filtered)
