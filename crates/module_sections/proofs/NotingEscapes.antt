-- References that are recorded one after another are recorded as by one call.
use Rattle.std.proofs.Common.{◌≡◌, ℕ, ◌+◌, ◌<◌, List, [], ◌∷◌, ◌++◌, length, get_or, map, take, set, refl, sym, ◌∙◌, subst}
use Rattle.std.specs.Prelude.{◌==◌}
use Rattle.std.specs.List.{range_with_len}
use Rattle.std.proofs.lemmas.List.{length-set, map_more, map-id}
use Rattle.std.proofs.lemmas.List.Sums.{fold-append}
use Rattle.std.proofs.lemmas.List.FromFn.{map-range_with_len_more}
use Rattle.entity_map.specs.Firsts.{with_first, firsts_after}
use Rattle.module_sections.specs.EscapeLog.{EscapeLog, after_escapes}
use Rattle.module_sections.specs.Numbers.{AreNumbers}
use Rattle.module_sections.proofs.Numbering.{after_escapes-new, after_escapes-old}

pub firsts-append : (known xs ys : List ℕ) → firsts_after (firsts_after known xs) ys ≡ firsts_after known (xs ++ ys)
firsts-append known xs ys = sym (fold-append (with_first (λ k n. k == n)) known xs ys)

pub after_escapes-append : (s : EscapeLog) (xs ys : List ℕ) → after_escapes (after_escapes s xs) ys ≡ after_escapes s (xs ++ ys)
after_escapes-append s xs ys = simp firsts-append

-- recorded by two calls, and so by one
pub noted-both : (f g h : EscapeLog) (xs ys zs : List ℕ) → g ≡ after_escapes f xs → h ≡ after_escapes g ys → zs ≡ xs ++ ys → h ≡ after_escapes f zs
noted-both f g h xs ys zs first second both = rw (second, first, both) (simp firsts-append)

pub after_escapes-more : {A : Type 0} (number : A → ℕ) (s t u : EscapeLog) (xs : List A) (i : ℕ) (x : A) → i < length xs → x ≡ get_or xs i x
    → t ≡ after_escapes s (map number (take i xs)) → u ≡ after_escapes t (number x ∷ []) → u ≡ after_escapes s (map number (take (i + 1) xs))
after_escapes-more number s t u xs i x lt is before now =
    noted-both s t u (map number (take i xs)) (number x ∷ []) (map number (take (i + 1) xs)) before now (cc (map_more number xs i x lt))

range-more : (start n : ℕ) → range_with_len start (n + 1) ≡ range_with_len start n ++ (start + n) ∷ []
range-more start n = cc (map-id (range_with_len start (n + 1)), map-range_with_len_more (λ k. k) start n (start + n) refl, map-id (range_with_len start n))

pub after_escapes-next : (s t u : EscapeLog) (start n : ℕ) → t ≡ after_escapes s (range_with_len start n) → u ≡ after_escapes t ((start + n) ∷ [])
    → u ≡ after_escapes s (range_with_len start (n + 1))
after_escapes-next s t u start n before now = noted-both s t u (range_with_len start n) ((start + n) ∷ []) (range_with_len start (n + 1)) before now (range-more start n)

-- what is kept, viewed as one record
pub seen-new : (s : EscapeLog) (numbers order after : List ℕ) (f : ℕ) → AreNumbers numbers order → record { count = length numbers; order = order } ≡ s
    → f < length numbers → get_or numbers f 0 ≡ 4294967295 → after ≡ order ++ f ∷ []
    → record { count = length (set numbers f (length order)); order = after } ≡ after_escapes s (f ∷ [])
seen-new s numbers order after f kept seen in' e is =
    subst (λ x. record { count = length (set numbers f (length order)); order = after } ≡ after_escapes x (f ∷ [])) seen
    (λ i. record { count = length-set numbers f (length order) i; order = (is ∙ after_escapes-new numbers order f kept in' e) i })

pub seen-old : (s : EscapeLog) (numbers order : List ℕ) (f : ℕ) → AreNumbers numbers order → record { count = length numbers; order = order } ≡ s
    → f < length numbers → (get_or numbers f 0 ≡ 4294967295 → ⊥) → s ≡ after_escapes s (f ∷ [])
seen-old s numbers order f kept seen in' apart =
    subst (λ x. x ≡ after_escapes x (f ∷ [])) seen (λ i. record { count = length numbers; order = after_escapes-old numbers order f kept in' apart i })
