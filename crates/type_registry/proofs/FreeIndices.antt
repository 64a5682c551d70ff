-- The indices that are free, in their order.
use Rattle.std.specs.Prelude.{[], ◌||◌}
use Rattle.std.proofs.Common.{if◌then◌else◌, ◌≡◌, ◌∙◌, ◌<◌, ◌≤◌, ℕ, zero, suc, ◌+◌, ◌-◌, Bool, true, false, nat_eq, List, ◌∷◌, ◌++◌, length, get_or, slice_get, Some, refl, sym, ap, arith, eq-eqb}
use Rattle.std.specs.List.{list_any}
use Rattle.std.proofs.lemmas.Bool.{ne_eqb, cases_Bool, false_from_ne_true}
use Rattle.std.proofs.lemmas.Option.{slice_get-get_or, slice_get_within, none-some}
use Rattle.std.proofs.lemmas.Bool.Decides.{nat_tests}
use Rattle.std.proofs.lemmas.List.{append-nil}
use Rattle.std.proofs.lemmas.List.Folds.{list_any-append}
use Rattle.free_numbers.specs.Counts.{total, before}
use Rattle.free_numbers.proofs.Pairs.{before-more, all-before, some-within}
use Rattle.type_registry.specs.FreeIndices.{free_below}
use Rattle.type_registry.proofs.OwnerLists.{place-any}
use Rattle.type_registry.proofs.KeepingAll.{true-false, IsOnce}
use Rattle.type_registry.specs.Changes.{past, least_from, least_free, free_indices}

abbrev has : List ℕ → ℕ → Bool
has taken n = list_any (nat_eq n) taken

-- ---- how many are free before one

more : (taken : List ℕ) (i j d : ℕ) → j ≡ i + d → free_below taken i ≤ free_below taken j
more taken i j zero e = let same : j ≡ i = omega (arith, e) in omega (arith, ap (free_below taken) same)
more taken i zero (suc d) e = absurd (omega (arith, e))
more taken i (suc j) (suc d) e = omega (arith, more taken i j d (omega (arith, e)))

step-free : (taken : List ℕ) (i : ℕ) → has taken i ≡ false → free_below taken (suc i) ≡ free_below taken i + 1
step-free taken i none = ap (λ (c : Bool). free_below taken i + (if c then 0 else 1)) none

step-taken : (taken : List ℕ) (i : ℕ) → has taken i ≡ true → free_below taken (suc i) ≡ free_below taken i
step-taken taken i is = let same : free_below taken i + 0 ≡ free_below taken i = omega arith in ap (λ (c : Bool). free_below taken i + (if c then 0 else 1)) is ∙ same

less : (taken : List ℕ) (i j : ℕ) → i < j → has taken i ≡ false → free_below taken i < free_below taken j
less taken i j lt none = omega (arith, step-free taken i none, more taken (suc i) j (j - suc i) (omega (arith, lt)))

-- a free number is determined by how many are free before it
pub same-rank : (taken : List ℕ) (i j : ℕ) → has taken i ≡ false → has taken j ≡ false → free_below taken i ≡ free_below taken j → i ≡ j
same-rank taken i j none none' same = grind (arith, less)

-- where all from one to another are used, none is free between them
all-taken : (taken : List ℕ) (i j d : ℕ) → j ≡ i + d → ((m : ℕ) → i ≤ m → m < j → has taken m ≡ true) → free_below taken j ≡ free_below taken i
all-taken taken i j zero e all = let same : j ≡ i = omega (arith, e) in ap (free_below taken) same
all-taken taken i zero (suc d) e all = absurd (omega (arith, e))
all-taken taken i (suc j) (suc d) e all = grind (arith, step-taken, (all-taken taken i j d (omega (arith, e)) (λ m low high. all m low (omega (arith, high)))))

-- one more that is used makes at most one less free
none-less : (t : ℕ) (ts : List ℕ) (n : ℕ) → n ≤ t → free_below (t ∷ ts) n ≡ free_below ts n
none-less t ts zero le = refl
none-less t ts (suc n) le = grind (arith, nat_eq, ne_eqb, (none-less t ts n (omega (arith, le))))

one-less : (t : ℕ) (ts : List ℕ) (n : ℕ) → free_below ts n ≤ free_below (t ∷ ts) n + 1
one-less t ts zero = omega arith
one-less t ts (suc n) = grind (arith, none-less, cases_Bool, nat_tests, (one-less t ts n))

no-taken : (n : ℕ) → free_below [] n ≡ n
no-taken zero = refl
no-taken (suc n) = omega (arith, no-taken n)

-- no number is past those that are free before it and all that are used
pub rank-high : (taken : List ℕ) (n : ℕ) → n ≤ length taken + free_below taken n
rank-high [] n = omega (arith, no-taken n)
rank-high (t ∷ ts) n = omega (arith, rank-high ts n, one-less t ts n)

-- ---- the least that is free

past-none : (taken : List ℕ) (m : ℕ) → past taken ≤ m → has taken m ≡ false
past-none [] m le = refl
past-none (t ∷ ts) m le = grind (arith, (past-none ts m (omega (arith, le))))

from-none : (taken : List ℕ) (i n : ℕ) → ((m : ℕ) → i + n ≤ m → has taken m ≡ false) → has taken (least_from taken i n) ≡ false
from-none taken i zero none = none i (omega arith)
from-none taken i (suc n) none = grind (arith, cases_Bool, (from-none taken (i + 1) n (λ m le. none m (omega (arith, le)))))

from-below : (taken : List ℕ) (i n m : ℕ) → i ≤ m → m < least_from taken i n → has taken m ≡ true
from-below taken i zero m low high = absurd (omega (arith, low, high))
from-below taken i (suc n) m low high = grind (arith, cases_Bool, (from-below taken (i + 1) n m))

least-none : (taken : List ℕ) → has taken (least_free taken) ≡ false
least-none taken = from-none taken 0 (past taken) (λ m le. past-none taken m (omega (arith, le)))

least-below : (taken : List ℕ) (m : ℕ) → m < least_free taken → has taken m ≡ true
least-below taken m lt = from-below taken 0 (past taken) m (omega arith) lt

-- the same numbers have the same least one that is free
least-same : (xs ys : List ℕ) → ((m : ℕ) → has xs m ≡ has ys m) → least_free xs ≡ least_free ys
least-same xs ys same = grind (arith, least-none xs, least-none ys, least-below, true-false)

-- ---- those that are free in turn

pub free-length : (taken : List ℕ) (n : ℕ) → length (free_indices taken n) ≡ n
free-length taken zero = refl
free-length taken (suc n) = omega (arith, free-length (least_free taken ∷ taken) n)

free-same : (xs ys : List ℕ) (n : ℕ) → ((m : ℕ) → has xs m ≡ has ys m) → free_indices xs n ≡ free_indices ys n
free-same xs ys zero same = refl
free-same xs ys (suc n) same =
    let j = least-same xs ys same in
    λ i. j i ∷ (free-same (least_free xs ∷ xs) (least_free ys ∷ ys) n (λ m. λ i. nat_eq m (j i) || same m i)) i

-- the least that is free is not below an index below which all are used
not-below : (now : List ℕ) (i : ℕ) → ((m : ℕ) → m < i → has now m ≡ true) → i ≤ least_free now
not-below now i all = grind (arith, least-none now, true-false)

up-to : (now : List ℕ) (m : ℕ) → m < suc (least_free now) → has (least_free now ∷ now) m ≡ true
up-to now m lt = grind (arith, least-below, nat_tests)

-- those below an index are all used by then, and from it on nothing has changed
in-turn : (taken now : List ℕ) (i n k x : ℕ) → ((m : ℕ) → m < i → has now m ≡ true) → ((m : ℕ) → i ≤ m → has now m ≡ has taken m)
    → slice_get (free_indices now n) k ≡ Some x → (has taken x ≡ false) × (free_below taken x ≡ free_below taken i + k)
in-turn taken now i zero k x all same at = absurd (none-some x at)
in-turn taken now i (suc n) zero x all same at =
    let low = not-below now i all in
    let before = all-taken taken i (least_free now) (least_free now - i) (omega (arith, low)) (λ m le lt. sym (same m le) ∙ least-below now m lt) in
    grind (arith, same (least_free now) low, least-none now)
in-turn taken now i (suc n) (suc k) x all same at =
    let j = least_free now in
    let low = not-below now i all in
    let before = all-taken taken i j (j - i) (omega (arith, low)) (λ m le lt. sym (same m le) ∙ least-below now m lt) in
    let rest = in-turn taken (j ∷ now) (suc j) n k x (up-to now) (λ m le. grind (arith, ne_eqb m j, same m)) at in
    (rest.0, omega (arith, rest.1, step-free taken j (sym (same j low) ∙ least-none now), before))

-- what is free in turn
pub free-at : (taken : List ℕ) (n k x : ℕ) → slice_get (free_indices taken n) k ≡ Some x → (has taken x ≡ false) × (free_below taken x ≡ k)
free-at taken n k x at = grind (arith, in-turn taken taken 0 n k x (λ m lt. absurd (omega (arith, lt))) (λ m le. refl) at)

-- what was free in turn is used by then
pub free-split : (taken : List ℕ) (m n : ℕ) → free_indices taken (m + n) ≡ free_indices taken m ++ free_indices (taken ++ free_indices taken m) n
free-split taken zero n = grind (arith, append-nil)
free-split taken (suc m) n =
    let j = least_free taken in
    let more : suc m + n ≡ suc (m + n) = omega arith in
    let fs = free_indices (j ∷ taken) m in
    let moved = free-same ((j ∷ taken) ++ fs) (taken ++ j ∷ fs) n (λ x. grind (arith, list_any-append, cases_Bool)) in
    ap (free_indices taken) more ∙ ap (λ l. j ∷ l) (free-split (j ∷ taken) m n ∙ ap (λ l. fs ++ l) moved)

get-behind : (xs ys : List ℕ) (k : ℕ) → slice_get (xs ++ ys) (length xs + k) ≡ slice_get ys k
get-behind [] ys k = let none : 0 + k ≡ k = omega arith in ap (slice_get ys) none
get-behind (x ∷ xs) ys k = let more : suc (length xs) + k ≡ suc (length xs + k) = omega arith in ap (slice_get (x ∷ xs ++ ys)) more ∙ get-behind xs ys k

-- a free number before which so many are free is the next in turn, where so many less were free in
-- turn
pub free-next : (taken : List ℕ) (m n k x : ℕ) → has taken x ≡ false → free_below taken x ≡ m + k → k < n
    → slice_get (free_indices (taken ++ free_indices taken m) n) k ≡ Some x
free-next taken m n k x none rank lt =
    let fs = free_indices taken m in
    let gs = free_indices (taken ++ fs) n in
    let y = get_or gs k 0 in
    let here : slice_get gs k ≡ Some y = slice_get-get_or gs k 0 (omega (arith, lt, free-length (taken ++ fs) n)) in
    let size : length fs + k ≡ m + k = omega (arith, free-length taken m) in
    let whole : slice_get (free_indices taken (m + n)) (m + k) ≡ Some y =
    ap (λ l. slice_get l (m + k)) (free-split taken m n) ∙ ap (slice_get (fs ++ gs)) (sym size) ∙ get-behind fs gs k ∙ here in
    let f = free-at taken (m + n) (m + k) y whole in
    here ∙ ap Some (same-rank taken y x f.0 none (f.1 ∙ sym rank))

-- ---- what is free in turn is not used, is low, and occurs once

pub not-taken : (taken : List ℕ) (n x : ℕ) → has (free_indices taken n) x ≡ true → has taken x ≡ false
not-taken taken n x is = let p = place-any (free_indices taken n) x is in (free-at taken n p.place x p.at).0

pub free-low : (taken : List ℕ) (n x : ℕ) → has (free_indices taken n) x ≡ true → x < length taken + n
free-low taken n x is =
    let p = place-any (free_indices taken n) x is in
    grind (arith, free-at taken n p.place x p.at, rank-high taken x, slice_get_within (free_indices taken n) p.place x p.at, free-length taken n)

pub free-once : (taken : List ℕ) (n : ℕ) → IsOnce (free_indices taken n)
free-once taken zero = tt
free-once taken (suc n) = grind (arith, eq-eqb, not-taken, true-false, false_from_ne_true, (free-once (least_free taken ∷ taken) n))

-- ---- numbers that are counted where they are free

-- a 1 for each number that is free, and a 0 for each other
abbrev pub AreCounted : List ℕ → List ℕ → Type 0
AreCounted taken xs = (i : ℕ) → i < length xs → get_or xs i 0 ≡ (if has taken i then 0 else 1)

pub counted-before : (taken xs : List ℕ) → AreCounted taken xs → (n : ℕ) → n ≤ length xs → before n xs ≡ free_below taken n
counted-before taken xs are zero le = refl
counted-before taken xs are (suc n) le = grind (arith, before-more, (counted-before taken xs are n (omega (arith, le))))

pub counted-free : (taken xs : List ℕ) → AreCounted taken xs → (n : ℕ) → get_or xs n 0 ≡ 1 → (n < length xs) × (has taken n ≡ false)
counted-free taken xs are n one = grind (arith, some-within, cases_Bool)

-- past them all are free
pub counted-past : (taken xs : List ℕ) → AreCounted taken xs → ((i : ℕ) → length xs ≤ i → has taken i ≡ false)
    → (n d : ℕ) → n ≡ length xs + d → free_below taken n ≡ total xs + d
counted-past taken xs are free n zero e = grind (arith, counted-before taken xs are (length xs) (omega arith), all-before xs)
counted-past taken xs are free zero (suc d) e = absurd (omega (arith, e))
counted-past taken xs are free (suc n) (suc d) e = grind (arith, (counted-past taken xs are free n d (omega (arith, e))))
