-- One more function is recorded: it gets the next number, and the others keep theirs.
use Rattle.std.proofs.Common.{◌≡◌, ◌≢◌, ℕ, ◌+◌, ◌<◌, ◌≤◌, true, false, eqb, List, [], ◌∷◌, ◌++◌, length, get_or, set, ap, sym, ◌∙◌, subst, arith, inl, inr, length-append}
use Rattle.std.specs.Prelude.{◌==◌, All}
use Rattle.std.specs.List.{position_or_len, list_any, AllPairs, Any}
use Rattle.std.proofs.lemmas.Bool.{cases_lt, cases_eq, eqb-true}
use Rattle.std.proofs.lemmas.Bool.Decides.{nat_tests, Decides-eqb}
use Rattle.std.proofs.lemmas.List.Elements.{All-from_get_or, All-push}
use Rattle.std.proofs.lemmas.List.Folds.{position_or_len_push, list_any_none, list_any_at, Any-from_list_any}
use Rattle.std.proofs.lemmas.List.Sums.{prefix_len-le-length, fails_before_first, passes_at_first}
use Rattle.std.proofs.lemmas.List.{get_or_default, get_or_append_left, get_or_push, get_or-set_same, get_or-set_other, length-set}
use Rattle.std.proofs.lemmas.Map.Steps.{length-le_from_distinct_below}
use Rattle.std.proofs.lemmas.Map.Made.{IsDistinct-from_AllPairs}
use Rattle.module_sections.specs.Escapes.{number_among}
use Rattle.entity_map.specs.Firsts.{firsts_after}
use Rattle.module_sections.specs.Numbers.{StandOnce, AreNumbers}

-- the first position of a function, which is the list's length where it was not recorded
abbrev pub place : List ℕ → ℕ → ℕ
place order f = position_or_len (λ k. k == f) order

pub place-le : (order : List ℕ) (f : ℕ) → place order f ≤ length order
place-le order f = prefix_len-le-length _ order

pub number-met : (order : List ℕ) (f : ℕ) → place order f < length order → number_among order f ≡ place order f
number-met order f lt = grind (arith, nat_tests)

pub number-none : (order : List ℕ) (f : ℕ) → place order f ≡ length order → number_among order f ≡ 4294967295
number-none order f e = grind (arith, nat_tests)

pub place-new : (order : List ℕ) (f : ℕ) → place order f ≡ length order → place (order ++ f ∷ []) f ≡ length order
place-new order f e = grind (arith, nat_tests, position_or_len_push (λ k. k == f) order f)

pub place-old : (order : List ℕ) (f g : ℕ) → place order g < length order → place (order ++ f ∷ []) g ≡ place order g
place-old order f g lt = grind (arith, nat_tests, position_or_len_push (λ k. k == g) order f)

pub place-other : (order : List ℕ) (f g : ℕ) → (f ≡ g → ⊥) → place order g ≡ length order → place (order ++ f ∷ []) g ≡ length order + 1
place-other order f g apart e = grind (arith, nat_tests, position_or_len_push (λ k. k == g) order f)

-- a list of numbers below a bound, each once, is no longer than the bound
distinct : (order : List ℕ) → StandOnce order → AllPairs (λ x y. x ≢ y) order
distinct order once i j d lt in' same =
    let p : get_or order i 0 ≡ get_or order j 0 = cc (get_or_default order i d 0 (omega arith), get_or_default order j d 0 in') in
    omega (arith, ap (place order) p, once i (omega arith), once j in')

pub order-few : (order : List ℕ) (count : ℕ) → StandOnce order → All (λ f. f < count) order → length order ≤ count
order-few order count once below =
    length-le_from_distinct_below order count (IsDistinct-from_AllPairs Decides-eqb order (distinct order once))
    (λ q e. Any-at (Any-from_list_any (eqb q) order e))
  where
    Any-at : {q : ℕ} → Any (λ x. eqb q x ≡ true) order → q < count
    Any-at {q} a = grind (arith, a.3, eqb-true q a.1 a.4, below a.0 a.1 a.2)

-- whether a function was recorded follows from its first position
pub met-place : (order : List ℕ) (f : ℕ) → place order f < length order → list_any (λ k. k == f) order ≡ true
met-place order f lt = list_any_at (λ k. k == f) order (place order f) 0 lt (passes_at_first (λ k. k == f) order 0 lt)

pub unmet-place : (order : List ℕ) (f : ℕ) → place order f ≡ length order → list_any (λ k. k == f) order ≡ false
unmet-place order f e =
    list_any_none (λ k. k == f) order (All-from_get_or (λ x. (x == f) ≡ false) order 0
    (λ i lt. fails_before_first (λ k. k == f) order i 0 (omega (arith, e))))

StandOnce-more : (order : List ℕ) (f : ℕ) → StandOnce order → place order f ≡ length order → StandOnce (order ++ f ∷ [])
StandOnce-more order f once new k lt =
    elim (cases_lt k (length order)) [
      | inl old ↦ ap (place (order ++ f ∷ [])) (get_or_append_left order (f ∷ []) 0 k old) ∙ grind (arith, place-old order f (get_or order k 0), once k)
      | inr ge ↦
          let e : length order ≡ k = omega (arith, length-append order (f ∷ [])) in
          ap (place (order ++ f ∷ [])) (get_or_push order f 0 k e) ∙ place-new order f new ∙ e
    ]

-- a function's kept number says whether it was recorded
pub unmet : (numbers order : List ℕ) (f : ℕ) → AreNumbers numbers order → f < length numbers → get_or numbers f 0 ≡ 4294967295
    → place order f ≡ length order
unmet numbers order f kept in' e =
    grind (arith, kept.number f, number-met order f, order-few order (length numbers) kept.once kept.met, kept.few, place-le order f)

pub met : (numbers order : List ℕ) (f : ℕ) → AreNumbers numbers order → f < length numbers → (get_or numbers f 0 ≡ 4294967295 → ⊥)
    → place order f < length order
met numbers order f kept in' apart = grind (arith, kept.number f, number-none order f, place-le order f)

number-push : (numbers order : List ℕ) (f g : ℕ) → AreNumbers numbers order → place order f ≡ length order → (g ≡ f → ⊥) → g < length numbers
    → get_or numbers g 0 ≡ number_among (order ++ f ∷ []) g
number-push numbers order f g kept new apart in' =
    grind (arith, kept.number g, nat_tests, position_or_len_push (λ k. k == g) order f, length-append order (f ∷ []), place-le order g)

pub AreNumbers-more : (numbers order : List ℕ) (f : ℕ) → AreNumbers numbers order → f < length numbers → get_or numbers f 0 ≡ 4294967295
    → AreNumbers (set numbers f (length order)) (order ++ f ∷ [])
AreNumbers-more numbers order f kept in' e =
    let new = unmet numbers order f kept in' e in
    let long : length (set numbers f (length order)) ≡ length numbers = length-set numbers f (length order) in
    let one-more : length (order ++ f ∷ []) ≡ length order + 1 = length-append order (f ∷ []) in
    record {
      number = λ g lt.
          elim (cases_eq g f) [
            | inl same ↦ subst (λ h. get_or (set numbers f (length order)) h 0 ≡ number_among (order ++ f ∷ []) h) (sym same)
                (grind (arith, get_or-set_same numbers f (length order) 0, number-met (order ++ f ∷ []) f, place-new order f new))
            | inr apart ↦ get_or-set_other numbers f g (length order) 0 apart ∙ number-push numbers order f g kept new apart (omega (arith, lt, long))
          ];
      met = All-push (λ g. g < length (set numbers f (length order))) order f
          (λ k d lt. omega (arith, kept.met k d lt, long)) (omega (arith, in', long));
      once = StandOnce-more order f kept.once new;
      few = omega (arith, long, kept.few);
    }

-- and so the functions that were recorded are as they must be
pub after_escapes-new : (numbers order : List ℕ) (f : ℕ) → AreNumbers numbers order → f < length numbers → get_or numbers f 0 ≡ 4294967295
    → order ++ f ∷ [] ≡ firsts_after order (f ∷ [])
after_escapes-new numbers order f kept in' e = grind (arith, unmet-place order f (unmet numbers order f kept in' e))

pub after_escapes-old : (numbers order : List ℕ) (f : ℕ) → AreNumbers numbers order → f < length numbers → (get_or numbers f 0 ≡ 4294967295 → ⊥)
    → order ≡ firsts_after order (f ∷ [])
after_escapes-old numbers order f kept in' apart = grind (arith, met-place order f (met numbers order f kept in' apart))
