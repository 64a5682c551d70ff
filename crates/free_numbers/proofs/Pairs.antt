-- Sums of adjacent counts.
use Rattle.std.proofs.lemmas.Grind.{common_steps}
use Rattle.std.proofs.Common.{◌≡◌, ◌∙◌, ◌≤◌, ◌<◌, ℕ, zero, suc, ◌+◌, ◌-◌, ◌*◌, ◌/◌, List, [], ◌∷◌, ◌++◌, length, get_or, set, take, drop, length-set, refl, sym, ap, subst, arith}
use Rattle.std.specs.Global.{Vec}
use Rattle.std.proofs.lemmas.List.{get_or_default, get_or_past}
use Rattle.free_numbers.specs.Counts.{total, before, pair_sums, change_at, IsCounts}
use Rattle.free_numbers.specs.Levels.{lists_of, counts_of, IsTree, IsChain, half, changed, CanChange, CanChangeFirst}

abbrev pub twice : ℕ → ℕ
twice zero = zero
twice (suc p) = suc (suc (twice p))

pub twice-is : (p : ℕ) → twice p ≡ 2 * p
twice-is zero = omega arith
twice-is (suc p) = omega (arith, twice-is p)

pub none-before : (p : ℕ) → before p [] ≡ 0
none-before zero = refl
none-before (suc p) = refl

abbrev nothing : List ℕ
nothing = []

pub none-at : (p : ℕ) → get_or nothing p 0 ≡ 0
none-at zero = refl
none-at (suc p) = refl

pub total-pairs : (xs : List ℕ) → total (pair_sums xs) ≡ total xs
total-pairs [] = refl
total-pairs (x ∷ []) = refl
total-pairs (x ∷ y ∷ xs) = omega (arith, total-pairs xs)

pub length-pairs : (xs : List ℕ) → length (pair_sums xs) ≤ length xs
length-pairs [] = omega arith
length-pairs (x ∷ []) = omega arith
length-pairs (x ∷ y ∷ xs) = omega (arith, length-pairs xs)

pairs-before : (xs : List ℕ) (p : ℕ) → before p (pair_sums xs) ≡ before (twice p) xs
pairs-before xs zero = refl
pairs-before [] (suc p) = refl
pairs-before (x ∷ []) (suc p) = omega (arith, none-before p)
pairs-before (x ∷ y ∷ xs) (suc p) = omega (arith, pairs-before xs p)

pairs-at : (xs : List ℕ) (p : ℕ) → get_or (pair_sums xs) p 0 ≡ get_or xs (twice p) 0 + get_or xs (suc (twice p)) 0
pairs-at [] zero = refl
pairs-at [] (suc p) = refl
pairs-at (x ∷ []) zero = let same : x ≡ x + 0 = omega arith in same
pairs-at (x ∷ []) (suc p) = none-at p
pairs-at (x ∷ y ∷ xs) zero = refl
pairs-at (x ∷ y ∷ xs) (suc p) = pairs-at xs p

pub before-more : (xs : List ℕ) (p : ℕ) → before (suc p) xs ≡ before p xs + get_or xs p 0
before-more [] zero = refl
before-more [] (suc p) = refl
before-more (x ∷ xs) zero = omega arith
before-more (x ∷ xs) (suc p) = omega (arith, before-more xs p)

pub some-within : (xs : List ℕ) (p : ℕ) → 0 < get_or xs p 0 → p < length xs
some-within xs p h = grind (arith, get_or_past xs p 0)

-- the position of a pair, and the two positions of its members
pub first-before : (xs ys : List ℕ) (p : ℕ) → ys ≡ pair_sums xs → before p ys ≡ before (2 * p) xs
first-before xs ys p e = ap (before p) e ∙ pairs-before xs p ∙ ap (λ n. before n xs) (twice-is p)

pub second-before : (xs ys : List ℕ) (p : ℕ) → ys ≡ pair_sums xs → before (2 * p + 1) xs ≡ before p ys + get_or xs (2 * p) 0
second-before xs ys p e = grind (arith, before-more, first-before)

pub both-at : (xs ys : List ℕ) (p : ℕ) → ys ≡ pair_sums xs → get_or ys p 0 ≡ get_or xs (2 * p) 0 + get_or xs (2 * p + 1) 0
both-at xs ys p e = grind (arith, pairs-at, twice-is)

-- the counts of pairs are few
pub pair-within : (xs ys : List ℕ) (p : ℕ) → ys ≡ pair_sums xs → p < length ys → 2 * p < length xs
pair-within xs ys p e h = subst (λ n. n < length xs) (twice-is p) (within xs p (subst (λ (l : List ℕ). p < length l) e h)) where
  within : (xs : List ℕ) (p : ℕ) → p < length (pair_sums xs) → twice p < length xs
  within [] p h = absurd (omega (arith, h))
  within (x ∷ []) zero h = omega arith
  within (x ∷ []) (suc p) h = absurd (omega (arith, h))
  within (x ∷ y ∷ xs) zero h = omega arith
  within (x ∷ y ∷ xs) (suc p) h = omega (arith, within xs p (omega (arith, h)))

-- ---- a level and those above it

pub above-sums : (vs ws : List (Vec ℕ)) (v : Vec ℕ) → vs ≡ v ∷ ws → 0 < length ws → IsTree (lists_of vs) → counts_of (lists_of ws) ≡ pair_sums v.items
above-sums vs ws v e some tree = grind (arith, common_steps)

pub above-tree : (vs ws : List (Vec ℕ)) (v : Vec ℕ) → vs ≡ v ∷ ws → 0 < length ws → IsTree (lists_of vs) → IsTree (lists_of ws)
above-tree vs ws v e some tree = grind arith

pub counts-first : (vs ws : List (Vec ℕ)) (v : Vec ℕ) → vs ≡ v ∷ ws → counts_of (lists_of vs) ≡ v.items
counts-first vs ws v e = ap (λ (l : List (Vec ℕ)). counts_of (lists_of l)) e

-- ---- the number of a rank

module _ (vs ws : List (Vec ℕ)) (v : Vec ℕ) (e : vs ≡ v ∷ ws) (some : 0 < length ws) (tree : IsTree (lists_of vs)) where
  abbrev counts : List ℕ
  counts = counts_of (lists_of vs)

  abbrev sums : List ℕ
  sums = counts_of (lists_of ws)

  are-sums : sums ≡ pair_sums counts
  are-sums = above-sums vs ws v e some tree ∙ ap pair_sums (sym (counts-first vs ws v e))

  pub go-up : (rank : ℕ) → rank < total counts → length counts < 4294967296
      → IsTree (lists_of ws) × (rank < total sums) × (length sums < 4294967296)
  go-up rank within few = grind (arith, above-tree, total-pairs, length-pairs, are-sums)

  module _ (place rest rank : ℕ) (free : rest < get_or sums place 0) (is : before place sums + rest ≡ rank) where
    in-sums : place < length sums
    in-sums = some-within sums place (omega (arith, free))

    low : 2 * place < length v.items
    low = subst (λ (l : List ℕ). 2 * place < length l) (counts-first vs ws v e) (pair-within counts sums place are-sums in-sums)

    left-is : (left : ℕ) → left ≡ get_or v.items (2 * place) left → left ≡ get_or counts (2 * place) 0
    left-is left is =
        is ∙ get_or_default v.items (2 * place) left 0 low ∙ ap (λ (l : List ℕ). get_or l (2 * place) 0) (sym (counts-first vs ws v e))

    -- what is known once the position above is found: of the first of its two positions, and of the
    -- second
    pub record IsFound : Type 0 where
      pub within : 2 * place < length v.items
      pub small : length counts < 4294967296 → 2 * place < 4294967296
      pub first : before (2 * place) counts + rest ≡ rank
      pub first_free : (left : ℕ) → left ≡ get_or v.items (2 * place) left → rest < left → rest < get_or counts (2 * place) 0
      pub second : (left : ℕ) → left ≡ get_or v.items (2 * place) left → left ≤ rest → before (2 * place + 1) counts + (rest - left) ≡ rank
      pub second_free : (left : ℕ) → left ≡ get_or v.items (2 * place) left → left ≤ rest → rest - left < get_or counts (2 * place + 1) 0

    pub found : IsFound
    found = record {
      within = low;
      small = λ few. omega (arith, pair-within counts sums place are-sums in-sums, few);
      first = ap (λ n. n + rest) (sym (first-before counts sums place are-sums)) ∙ is;
      first_free = λ left at less. omega (arith, left-is left at, less);
      second = λ left at more. omega (arith, left-is left at, more, is, second-before counts sums place are-sums);
      second_free = λ left at more. omega (arith, left-is left at, more, free, both-at counts sums place are-sums);
    }

-- ---- one more level

pub pairs-shorter : (xs : List ℕ) → 1 < length xs → length (pair_sums xs) < length xs
pairs-shorter xs h = grind (arith, length-pairs)

pub chain-more : (ls : List (List ℕ)) (xs ys : List ℕ) → ys ≡ pair_sums xs → IsChain (ls ++ xs ∷ []) → IsChain ((ls ++ xs ∷ []) ++ ys ∷ [])
chain-more [] xs ys e chain = (e, tt)
chain-more (l ∷ []) xs ys e chain = (chain.0, (e, tt))
chain-more (l ∷ m ∷ ls) xs ys e chain = (chain.0, chain-more (m ∷ ls) xs ys e chain.1)

pub first-more : (ls : List (List ℕ)) (xs ys : List ℕ) → counts_of ((ls ++ xs ∷ []) ++ ys ∷ []) ≡ counts_of (ls ++ xs ∷ [])
first-more [] xs ys = refl
first-more (l ∷ ls) xs ys = refl

pub chain-tree : (ls : List (List ℕ)) (xs : List ℕ) → IsChain (ls ++ xs ∷ []) → length xs ≤ 1 → IsTree (ls ++ xs ∷ [])
chain-tree [] xs chain h = h
chain-tree (l ∷ []) xs chain h = (chain.0, h)
chain-tree (l ∷ m ∷ ls) xs chain h = (chain.0, chain-tree (m ∷ ls) xs chain.1 h)

-- ---- a count that changes

pub change-pairs : (less more : ℕ) (xs : List ℕ) (n : ℕ) → n < length xs → less ≤ get_or xs n 0
    → change_at less more (half n) (pair_sums xs) ≡ pair_sums (change_at less more n xs)
change-pairs less more [] n h least = absurd (omega (arith, h))
change-pairs less more (x ∷ []) zero h least = refl
change-pairs less more (x ∷ []) (suc n) h least = absurd (omega (arith, h))
change-pairs less more (x ∷ y ∷ xs) zero h least =
    let same : x + y - less + more ≡ x - less + more + y = omega (arith, least) in ap (λ n. n ∷ pair_sums xs) same
change-pairs less more (x ∷ y ∷ xs) (suc zero) h least =
    let same : x + y - less + more ≡ x + (y - less + more) = omega (arith, least) in ap (λ n. n ∷ pair_sums xs) same
change-pairs less more (x ∷ y ∷ xs) (suc (suc n)) h least =
    ap (λ l. (x + y) ∷ l) (change-pairs less more xs n (omega (arith, h)) least)

pub half-is : (n : ℕ) → n / 2 ≡ half n
half-is zero = omega arith
half-is (suc zero) = omega arith
half-is (suc (suc n)) = omega (arith, half-is n)

half-within : (xs : List ℕ) (n : ℕ) → n < length xs → half n < length (pair_sums xs)
half-within [] n h = absurd (omega (arith, h))
half-within (x ∷ []) zero h = omega arith
half-within (x ∷ []) (suc n) h = absurd (omega (arith, h))
half-within (x ∷ y ∷ xs) zero h = omega arith
half-within (x ∷ y ∷ xs) (suc zero) h = omega arith
half-within (x ∷ y ∷ xs) (suc (suc n)) h = omega (arith, half-within xs n (omega (arith, h)))

half-least : (less : ℕ) (xs : List ℕ) (n : ℕ) → n < length xs → less ≤ get_or xs n 0 → less ≤ get_or (pair_sums xs) (half n) 0
half-least less [] n lt h = absurd (omega (arith, lt))
half-least less (x ∷ []) zero lt h = h
half-least less (x ∷ []) (suc n) lt h = absurd (omega (arith, lt))
half-least less (x ∷ y ∷ xs) zero lt h = let more : less ≤ x + y = omega (arith, h) in more
half-least less (x ∷ y ∷ xs) (suc zero) lt h = let more : less ≤ x + y = omega (arith, h) in more
half-least less (x ∷ y ∷ xs) (suc (suc n)) lt h = half-least less xs n (omega (arith, lt)) h

can-up : (less more n : ℕ) (xs ys : List ℕ) → ys ≡ pair_sums xs → CanChange less more n xs → CanChange less more (half n) ys
can-up less more n xs ys e can = grind (arith, half-within, half-least, total-pairs)

pub changed-tree : (less more : ℕ) (ls : List (List ℕ)) (n : ℕ) → IsTree ls → CanChangeFirst less more n ls → IsTree (changed less more n ls)
changed-tree less more [] n tree can = tt
changed-tree less more (xs ∷ []) n tree can = omega (arith, tree, length-set xs n (get_or xs n 0 - less + more))
changed-tree less more (xs ∷ ys ∷ ls) n tree can = grind (arith, change-pairs, can-up, (changed-tree less more (ys ∷ ls) (half n) tree.1 (can-up less more n xs ys tree.0 can)))

pub changed-first : (less more : ℕ) (ls : List (List ℕ)) (n : ℕ) → counts_of (changed less more n ls) ≡ change_at less more n (counts_of ls)
changed-first less more [] n = refl
changed-first less more (xs ∷ ls) n = refl

-- ---- level by level

abbrev pub no_counts : List ℕ
no_counts = []

pub change-step : (less more : ℕ) (ls : List (List ℕ)) (i place : ℕ) → i < length ls
    → take i ls ++ changed less more place (drop i ls)
    ≡ take (suc i) (set ls i (change_at less more place (get_or ls i no_counts)))
    ++ changed less more (half place) (drop (suc i) (set ls i (change_at less more place (get_or ls i no_counts))))
change-step less more [] i place h = absurd (omega (arith, h))
change-step less more (xs ∷ ls) zero place h = refl
change-step less more (xs ∷ ls) (suc i) place h = ap (λ l. xs ∷ l) (change-step less more ls i place (omega (arith, h)))

pub can-head : (less more : ℕ) (ls : List (List ℕ)) (i place : ℕ) → i < length ls → CanChangeFirst less more place (drop i ls)
    → CanChange less more place (get_or ls i no_counts)
can-head less more [] i place h can = absurd (omega (arith, h))
can-head less more (xs ∷ ls) zero place h can = can
can-head less more (xs ∷ ls) (suc i) place h can = can-head less more ls i place (omega (arith, h)) can

pub can-next : (less more : ℕ) (ls : List (List ℕ)) (i place : ℕ) (ys : List ℕ) → i < length ls → IsTree (drop i ls) → CanChangeFirst less more place (drop i ls)
    → IsTree (drop (suc i) (set ls i ys)) × CanChangeFirst less more (half place) (drop (suc i) (set ls i ys))
can-next less more [] i place ys h tree can = absurd (omega (arith, h))
can-next less more (xs ∷ []) zero place ys h tree can = (tt, tt)
can-next less more (xs ∷ zs ∷ ls) zero place ys h tree can = (tree.1, can-up less more place xs zs tree.0 can)
can-next less more (xs ∷ ls) (suc i) place ys h tree can = can-next less more ls i place ys (omega (arith, h)) tree can

-- ---- counts of 0 and 1

pub few-in-all : (xs : List ℕ) → IsCounts xs → total xs ≤ length xs
few-in-all [] is = omega arith
few-in-all (x ∷ xs) is = omega (arith, is.0, few-in-all xs is.1)

pub set-counts : (xs : List ℕ) (n y : ℕ) → y ≤ 1 → IsCounts xs → IsCounts (set xs n y)
set-counts [] n y h is = tt
set-counts (x ∷ xs) zero y h is = (h, is.1)
set-counts (x ∷ xs) (suc n) y h is = (is.0, set-counts xs n y h is.1)

pub count-few : (xs : List ℕ) (n : ℕ) → IsCounts xs → get_or xs n 0 ≤ 1
count-few [] n is = omega (arith, none-at n)
count-few (x ∷ xs) zero is = is.0
count-few (x ∷ xs) (suc n) is = count-few xs n is.1

pub total-set : (xs : List ℕ) (n y : ℕ) → n < length xs → total (set xs n y) + get_or xs n 0 ≡ total xs + y
total-set [] n y h = absurd (omega (arith, h))
total-set (x ∷ xs) zero y h = omega arith
total-set (x ∷ xs) (suc n) y h = omega (arith, total-set xs n y (omega (arith, h)))

pub all-before : (xs : List ℕ) → before (length xs) xs ≡ total xs
all-before [] = refl
all-before (x ∷ xs) = omega (arith, all-before xs)

pub before-next : (xs : List ℕ) (p : ℕ) → before (p + 1) xs ≡ before p xs + get_or xs p 0
before-next xs p = let at : p + 1 ≡ suc p = omega arith in ap (λ n. before n xs) at ∙ before-more xs p

pub before-few : (xs : List ℕ) (p : ℕ) → before p xs + get_or xs p 0 ≤ total xs
before-few [] zero = omega arith
before-few [] (suc p) = omega arith
before-few (x ∷ xs) zero = omega arith
before-few (x ∷ xs) (suc p) = omega (arith, before-few xs p)

-- ---- the levels of some counts

pub first-can : (less more n : ℕ) (ls : List (List ℕ)) → CanChange less more n (counts_of ls) → CanChangeFirst less more n ls
first-can less more n [] can = tt
first-can less more n (xs ∷ ls) can = can

pub value : (vs : List (Vec ℕ)) (v : Vec ℕ) (n x : ℕ) (now : List ℕ) → counts_of (lists_of vs) ≡ now → n < length now → v ≡ get_or vs 0 v → x ≡ get_or v.items n x
    → (n < length (counts_of (lists_of vs))) × (x ≡ get_or (counts_of (lists_of vs)) n 0)
value vs v n x now seen h e f = grind (arith, common_steps, get_or_default)

pub can-take : (xs : List ℕ) (n : ℕ) → IsCounts xs → length xs < 4294967296 → n < length xs → 0 < get_or xs n 0 → CanChange 1 0 n xs
can-take xs n is few h some = (h, omega (arith, some), omega (arith, few-in-all xs is, few))

pub can-give : (xs : List ℕ) (n : ℕ) → IsCounts xs → length xs < 4294967296 → n < length xs → get_or xs n 0 ≡ 0 → CanChange 0 1 n xs
can-give xs n is few h none = grind (arith, set-counts xs n 1 (omega arith) is, few-in-all (set xs n 1) (set-counts xs n 1 (omega arith) is), length-set xs n 1, total-set xs n 1 h)

module _ (less more : ℕ) (ls ms : List (List ℕ)) (n y free free' : ℕ) (changes : ms ≡ changed less more n ls)
    (tree : IsTree ls) (counts : IsCounts (counts_of ls)) (few : length (counts_of ls) < 4294967296) (all : free ≡ total (counts_of ls))
    (can : CanChange less more n (counts_of ls)) (one : y ≤ 1) (gives : get_or (counts_of ls) n 0 - less + more ≡ y)
    (frees : free' + less ≡ free + more) where
  pub new-counts : counts_of ms ≡ set (counts_of ls) n y
  new-counts = ap counts_of changes ∙ changed-first less more ls n ∙ ap (set (counts_of ls) n) gives

  pub stays : IsTree ms × IsCounts (counts_of ms) × (length (counts_of ms) < 4294967296) × (free' ≡ total (counts_of ms))
  stays = grind (arith, first-can, changed-tree, set-counts, length-set, total-set, new-counts)
