-- Which pages are borrowed, as pieces are written.
use Rattle.std.proofs.Common.{◌≡◌, ℕ, zero, suc, ◌+◌, ◌-◌, ◌*◌, ◌/◌, ◌%◌, ◌<◌, ◌≤◌, Bool, true, false, ◌&&◌, List, [], ◌∷◌, ◌++◌, length, map, get_or, set, take, drop, replicate, Option, None, Some, ⊎_elim, refl, sym, ◌∙◌, ap, arith}
use Rattle.std.specs.Prelude.{slice_get, if◌then◌else◌, nat_le, nat_lt}
use Rattle.std.proofs.Math.ListN.{length-set}
use Rattle.std.proofs.lemmas.Bool.{cases_lt, lt-ltb, le-ltb, le-leb, lt-leb, eq-eqb, ne_eqb}
use Rattle.std.proofs.lemmas.List.{length-replicate, get_or-replicate, get_or_append_left, get_or-append_right, get_or-drop, get_or_past, drop_more}
use Rattle.std.proofs.lemmas.Nat.{div-add-mod', mul-le, le-div}
use Rattle.std.proofs.Math.Nat.{div-eq_of_lt}
use Rattle.std.proofs.lemmas.Option.{slice_get-get_or, slice_get_within, same_Some, get_or_from_slice_get}
use Rattle.replay_spec.specs.Phases.{Piece, Phase, fits, before_trap}
use Rattle.paged_memory.specs.Memory.{Contents, count_lent, page_count, reached, as_lent, not_lent}
use Rattle.paged_memory.specs.Writing.{written}
use Rattle.plan_run.specs.Memories.{first_lent, is_of_image, image_pages, lends, ImageIsWithin}
use Rattle.plan_run.specs.Segments.{reaches, still_lent, LendOn, LendBut}
use Rattle.plan_run.proofs.Lists.{get-set-same, get-set-other, get-replicate}
use Rattle.plan_run.proofs.Writing.{length-written, written-before, written-in, written-behind}

-- ---- pages that are written to

none-past : (n m k : ℕ) → get_or (replicate n false ++ drop m []) k false ≡ false
none-past zero zero k = refl
none-past zero (suc m) k = refl
none-past (suc n) m zero = refl
none-past (suc n) m (suc k) = none-past n m k

from-first : (n k : ℕ) (lent : List Bool) → get_or (replicate n false ++ drop n lent) k false ≡ (if nat_lt k n then false else get_or lent k false)
from-first n k lent = ⊎_elim
    (λ (low : k < n). get_or_append_left (replicate n false) (drop n lent) false k (omega (arith, length-replicate n false)) ∙ get_or-replicate n k false false low
    ∙ ap (λ b. if b then false else get_or lent k false) (sym (lt-ltb k n low)))
    (λ (high : n ≤ k). get_or-append_right (replicate n false) (drop n lent) n k false (length-replicate n false) high ∙ get_or-drop n lent (k - n) false
    ∙ ap (λ i. get_or lent i false) (omega arith) ∙ ap (λ b. if b then false else get_or lent k false) (sym (le-ltb k n high)))
    (cases_lt k n)

suc-le : (a b : ℕ) → nat_le (suc a) (suc b) ≡ nat_le a b
suc-le a b = ⊎_elim (λ (low : b < a). lt-leb (suc a) (suc b) (omega arith) ∙ sym (lt-leb a b low)) (λ (high : a ≤ b). le-leb (suc a) (suc b) (omega arith) ∙ sym (le-leb a b high)) (cases_lt b a)

suc-lt : (a b : ℕ) → nat_lt (suc a) (suc b) ≡ nat_lt a b
suc-lt a b = ⊎_elim (λ (low : a < b). lt-ltb (suc a) (suc b) (omega arith) ∙ sym (lt-ltb a b low)) (λ (high : b ≤ a). le-ltb (suc a) (suc b) (omega arith) ∙ sym (le-ltb a b high)) (cases_lt a b)

pub not-lent-at : (f n m k : ℕ) (lent : List Bool) → m ≡ f + n
    → get_or (take f lent ++ (replicate n false ++ drop m lent)) k false ≡ (if nat_le f k && nat_lt k m then false else get_or lent k false)
not-lent-at zero n m k lent is = let same : m ≡ n = omega arith in rw (same, le-leb 0 k (omega arith)) (from-first n k lent)
not-lent-at (suc f) n m k [] is = none-past n m k ∙ (elim (nat_le (suc f) k && nat_lt k m) as (λ b. false ≡ (if b then false else false)) [ true ↦ refl | false ↦ refl ])
not-lent-at (suc f) n zero k (x ∷ lent) is = absurd (omega arith)
not-lent-at (suc f) n (suc m) zero (x ∷ lent) is = ap (λ b. if b && nat_lt 0 (suc m) then false else x) (sym (lt-leb (suc f) 0 (omega arith)))
not-lent-at (suc f) n (suc m) (suc k) (x ∷ lent) is =
    not-lent-at f n m k lent (omega arith)
    ∙ ap (λ b. if b && nat_lt k m then false else get_or lent k false) (sym (suc-le f k))
    ∙ ap (λ b. if nat_le (suc f) (suc k) && b then false else get_or lent k false) (sym (suc-lt k m))

-- ---- memories, one of which is written to

pub still-none : (size memory page : ℕ) (ps : List (Piece ℕ)) → still_lent size memory page false ps ≡ false
still-none size memory page [] = refl
still-none size memory page (p ∷ ps) =
    elim (reaches size memory page p) as (λ b. still_lent size memory page (if b then false else false) ps ≡ false)
    [ true ↦ still-none size memory page ps | false ↦ still-none size memory page ps ]

module _ (memories : List Contents) (p : Piece ℕ) (memory new : Contents) (at : slice_get memories p.object ≡ Some memory) (same : new.page ≡ memory.page)
    (is : new.lent ≡ not_lent (p.offset / memory.page) (reached memory.page p.offset p.items) memory.lent) where
  abbrev count : ℕ
  count = reached memory.page p.offset p.items

  here-lent : (page : ℕ) → lends new page ≡ (if reaches memory.page p.object page p then false else lends memory page)
  here-lent page =
      let first = p.offset / memory.page in
      let step = not-lent-at first count (first + length (replicate count false)) page memory.lent (ap (λ n. first + n) (length-replicate count false)) in
      let long = length-replicate count false in
      grind (arith, is, step, long, eq-eqb p.object p.object refl)

  one-size : (i : ℕ) (before after : Contents) → slice_get memories i ≡ Some before → slice_get (set memories p.object new) i ≡ Some after → after.page ≡ before.page
  one-size i before after found now = grind (arith, slice_get_within, get-set-same, get-set-other)

  one-lent : (i page : ℕ) (before after : Contents) → slice_get memories i ≡ Some before → slice_get (set memories p.object new) i ≡ Some after
      → lends after page ≡ (if reaches before.page i page p then false else lends before page)
  one-lent i page before after found now = grind (arith, slice_get_within, get-set-same, get-set-other, here-lent page, ne_eqb p.object i)

  pub but-set : LendBut p memories (set memories p.object new)
  but-set = record { count = length-set memories p.object new; sizes = one-size; lent = one-lent }

-- ---- pieces one by one

-- while pieces are written: after those that remain, the same pages are borrowed as after the
-- complete phase
pub record IsLending (phase : Phase ℕ) (rest : List (Piece ℕ)) (old new : List Contents) : Type 0 where
  pub count : length new ≡ length old
  pub sizes : (i : ℕ) (before after : Contents) → slice_get old i ≡ Some before → slice_get new i ≡ Some after → after.page ≡ before.page
  pub lent : (i page : ℕ) (before after : Contents) → slice_get old i ≡ Some before → slice_get new i ≡ Some after
      → still_lent before.page i page (lends after page) (before_trap phase.sizes rest)
      ≡ still_lent before.page i page (lends before page) (before_trap phase.sizes phase.pieces)

pub lending-starts : (phase : Phase ℕ) (old : List Contents) → IsLending phase phase.pieces old old
lending-starts phase old = record {
  count = refl;
  sizes = λ i before after at is. ap (λ (m : Contents). m.page) (same_Some after before (sym is ∙ at));
  lent = λ i page before after at is.
      ap (λ (m : Contents). still_lent before.page i page (lends m page) (before_trap phase.sizes phase.pieces)) (same_Some after before (sym is ∙ at));
}

pub lending-ends : (phase : Phase ℕ) (old new : List Contents) → IsLending phase [] old new → LendOn phase old new
lending-ends phase old new l = record { sizes = l.sizes; lent = l.lent }

module _ (phase : Phase ℕ) (p : Piece ℕ) (rest : List (Piece ℕ)) (old mid : List Contents) (l : IsLending phase (p ∷ rest) old mid) where
  pub lending-traps : fits phase.sizes p ≡ false → LendOn phase old mid
  lending-traps not = record {
    sizes = l.sizes;
    lent = λ i page before after at is. let e = l.lent i page before after at is in rw not at e;
  }

  pub lending-on : (new : List Contents) → fits phase.sizes p ≡ true → LendBut p mid new → IsLending phase rest old new
  lending-on new fit but = record {
    count = but.count ∙ l.count;
    sizes = λ i before after at is.
        let low : i < length mid = omega (arith, but.count, slice_get_within new i after is) in
        let found = slice_get-get_or mid i after low in
        but.sizes i (get_or mid i after) after found is ∙ l.sizes i before (get_or mid i after) at found;
    lent = λ i page before after at is.
        let low : i < length mid = omega (arith, but.count, slice_get_within new i after is) in
        let m : Contents = get_or mid i after in
        let found = slice_get-get_or mid i after low in
        let size : m.page ≡ before.page = l.sizes i before m at found in
        let e = l.lent i page before m at found in
        let step = but.lent i page m after found is in
        ap (λ b. still_lent before.page i page b (before_trap phase.sizes rest)) (step ∙ ap (λ n. if reaches n i page p then false else lends m page) size) ∙ (rw fit at e);
  }

-- of some pieces the next one is written, or it does not fit
module _ {X : Type 0} (phase : Phase ℕ) (f : X → Piece ℕ) (xs : List X) (i : ℕ) (d : X) (l : i < length xs) (old mid new : List Contents)
    (w : IsLending phase (map f (drop i xs)) old mid) where
  abbrev next : Piece ℕ
  next = f (get_or xs i d)

  here : IsLending phase (next ∷ map f (drop (i + 1) xs)) old mid
  here = rw (drop_more xs i d l) at w

  pub next-lends : fits phase.sizes next ≡ true → LendBut next mid new → IsLending phase (map f (drop (i + 1) xs)) old new
  next-lends fit but = lending-on phase next (map f (drop (i + 1) xs)) old mid here new fit but

  pub next-stays : fits phase.sizes next ≡ false → new ≡ mid → LendOn phase old new
  next-stays passes same = rw same (lending-traps phase next (map f (drop (i + 1) xs)) old mid here passes)

-- ---- images

pub empty_image : (page : ℕ) (lent : List Bool) → 0 < page → as_lent (0 / page) (0 / page) lent ≡ lent
empty_image page lent some = let none : 0 / page ≡ 0 = div-eq_of_lt {n = 0} {m = page} some in rw none refl

count-append : (xs ys : List Bool) → count_lent (xs ++ ys) ≡ count_lent xs + count_lent ys
count-append [] ys = omega arith
count-append (x ∷ xs) ys = omega (arith, count-append xs ys)

count-all : (n : ℕ) → count_lent (replicate n true) ≡ n
count-all zero = refl
count-all (suc n) = omega (arith, count-all n)

count-none : (n : ℕ) → count_lent (replicate n false) ≡ 0
count-none zero = refl
count-none (suc n) = omega (arith, count-none n)

count-take : (n : ℕ) (xs : List Bool) → count_lent (take n xs) ≤ count_lent xs
count-take zero xs = omega arith
count-take (suc n) [] = omega arith
count-take (suc n) (x ∷ xs) = omega (arith, count-take n xs)

count-drop : (n : ℕ) (xs : List Bool) → count_lent (drop n xs) ≤ count_lent xs
count-drop zero xs = omega arith
count-drop (suc n) [] = omega arith
count-drop (suc n) (x ∷ xs) = omega (arith, count-drop n xs)

-- where no page is borrowed
pub count-empty : (xs : List Bool) → ((k : ℕ) → get_or xs k false ≡ false) → count_lent xs ≡ 0
count-empty [] none = refl
count-empty (true ∷ xs) none = absurd (let e = none 0 in cc)
count-empty (false ∷ xs) none = omega (arith, count-empty xs (λ k. none (suc k)))

pub first-count : (page size : ℕ) (image : Option (ℕ × List ℕ)) → count_lent (first_lent page size image) ≡ image_pages page image
first-count page size None = count-none (page_count page size)
first-count page size (Some image) =
    let n = length image.1 / page in
    let zeros : List Bool = replicate (page_count page size) false in
    let behind = image.0 / page + length (replicate n true) in
    omega (
      arith,
      count-append (take (image.0 / page) zeros) (replicate n true ++ drop behind zeros),
      count-append (replicate n true) (drop behind zeros),
      count-all n,
      count-none (page_count page size),
      count-take (image.0 / page) zeros,
      count-drop behind zeros,
    )

-- of pages that are not borrowed, those from one on are not
module _ (a b n : ℕ) (l : a + b ≤ n) where
  abbrev zeros : List Bool
  zeros = replicate n false

  abbrev ones : List Bool
  ones = replicate b true

  fits_in : a + length ones ≤ length zeros
  fits_in = omega (arith, length-replicate n false, length-replicate b true, l)

  lent-before : (k : ℕ) → k < a → get_or (as_lent a b zeros) k false ≡ false
  lent-before k low = get_or_from_slice_get (as_lent a b zeros) k false false (written-before a ones zeros fits_in k low ∙ get-replicate false n k (omega (arith, l)))

  lent-in : (k : ℕ) → k < b → get_or (as_lent a b zeros) (a + k) false ≡ true
  lent-in k low = get_or_from_slice_get (as_lent a b zeros) (a + k) true false
      (written-in a ones zeros fits_in k (omega (arith, length-replicate b true)) ∙ get-replicate true b k low)

  lent-behind : (k : ℕ) → get_or (as_lent a b zeros) (a + length ones + k) false ≡ false
  lent-behind k = ⊎_elim
      (λ (low : a + length ones + k < n). get_or_from_slice_get (as_lent a b zeros) (a + length ones + k) false false
      (written-behind a ones zeros fits_in k ∙ get-replicate false n (a + length ones + k) low))
      (λ (high : n ≤ a + length ones + k). get_or_past (as_lent a b zeros) (a + length ones + k) false
      (omega (arith, length-written a ones zeros fits_in, length-replicate n false)))
      (cases_lt (a + length ones + k) n)

  lent-at : (k : ℕ) → get_or (as_lent a b zeros) k false ≡ (nat_le a k && nat_lt k (a + b))
  lent-at k =
      let none : (k < a) → (nat_le a k && nat_lt k (a + b)) ≡ false = λ low. ap (λ t. t && nat_lt k (a + b)) (lt-leb a k low) in
      ⊎_elim
      (λ (low : k < a). lent-before k low ∙ sym (none low))
      (λ (high : a ≤ k). ⊎_elim
      (λ (low : k < a + b). ap (λ i. get_or (as_lent a b zeros) i false) (omega arith) ∙ lent-in (k - a) (omega arith)
      ∙ sym (ap (λ t. t && nat_lt k (a + b)) (le-leb a k high) ∙ lt-ltb k (a + b) low))
      (λ (past : a + b ≤ k). ap (λ i. get_or (as_lent a b zeros) i false) (omega (arith, length-replicate b true)) ∙ lent-behind (k - (a + length ones))
      ∙ sym (ap (λ t. t && nat_lt k (a + b)) (le-leb a k high) ∙ le-ltb k (a + b) past))
      (cases_lt k (a + b)))
      (cases_lt k a)

pub first-lends : (page size : ℕ) (image : Option (ℕ × List ℕ)) (k : ℕ) → 0 < page → ImageIsWithin page size image
    → get_or (first_lent page size image) k false ≡ is_of_image page image k
first-lends page size None k some within = grind (arith, cases_lt k (page_count page size), get_or-replicate, get_or_past, length-replicate)
first-lends page size (Some image) k some within =
    let a = image.0 / page in
    let b = length image.1 / page in
    let start : a * page ≡ image.0 = omega (arith, div-add-mod' image.0 page, within.0) in
    let long : b * page ≡ length image.1 = omega (arith, div-add-mod' (length image.1) page, within.1) in
    let sum : (a + b) * page ≡ image.0 + length image.1 = omega arith in
    let room : a + b ≤ page_count page size = le-div (a + b) (size + (page - 1)) page some (omega (arith, within.2)) in
    lent-at a b (page_count page size) room k
    ∙ (grind (arith, cases_lt k a, cases_lt k (a + b), lt-ltb, le-ltb, le-leb, lt-leb, mul-le a page k page, mul-le (k + 1) page a page, mul-le (k + 1) page (a + b) page, mul-le (a + b) page k page))
