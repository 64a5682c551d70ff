-- How many pages hold a number of bytes, and how many of them are borrowed.
use Rattle.std.proofs.Common.{◌≡◌, ℕ, zero, suc, ◌+◌, ◌-◌, ◌*◌, ◌/◌, ◌%◌, ◌<◌, ◌≤◌, min, Bool, true, false, List, [], ◌∷◌, ◌++◌, length, replicate, ⊎_elim, refl, ap, ◌∙◌, arith}
use Rattle.std.proofs.lemmas.Bool.{cases_lt}
use Rattle.std.proofs.lemmas.Nat.{div-add-mod'}
use Rattle.std.proofs.Math.Nat.{div-eq_of_lt, add-div_right, mul-add-div_right}
use Rattle.paged_memory.specs.Memory.{count_lent, page_count, reached}

pub none-count : (size n : ℕ) → 0 < size → n ≡ 0 → page_count size n ≡ 0
none-count size n some none = div-eq_of_lt (omega (arith, some, none))

some-count : (size n : ℕ) → 0 < size → 0 < n → page_count size n ≡ (n - 1) / size + 1
some-count size n wide some = ap (λ k. k / size) (omega (arith, wide, some)) ∙ add-div_right (n - 1) wide

-- complete pages, and bytes after them
pub whole-count : (size pages n : ℕ) → 0 < size → page_count size (pages * size + n) ≡ pages + page_count size n
whole-count size pages n wide = ap (λ k. k / size) (omega arith) ∙ mul-add-div_right wide pages (n + (size - 1))

-- one page more
pub more-count : (size n k : ℕ) → 0 < size → 0 < n → k ≡ n - min n size → page_count size n ≡ page_count size k + 1
more-count size n k wide some is = ⊎_elim
    (λ less. some-count size n wide some ∙ omega (arith, div-eq_of_lt {n = n - 1} {m = size} (omega (arith, less, some)), none-count size k wide (omega (arith, is, less))))
    (λ more. ap (page_count size) (omega (arith, is, more)) ∙ whole-count size 1 k wide ∙ omega arith)
    (cases_lt n size)

pub whole-div : (size n : ℕ) → n % size ≡ 0 → n / size * size ≡ n
whole-div size n whole = omega (arith, div-add-mod' n size, whole)

-- pages of zeros before an image, and pages after it
pub before-count : (size start : ℕ) → 0 < size → start % size ≡ 0 → page_count size start ≡ start / size
before-count size start wide whole =
    ap (page_count size) (omega (arith, whole-div size start whole)) ∙ whole-count size (start / size) 0 wide ∙ omega (arith, none-count size 0 wide refl)

pub all-count : (size len start k : ℕ) → 0 < size → start % size ≡ 0 → k % size ≡ 0 → start + k ≤ len
    → page_count size len ≡ start / size + (k / size + page_count size (len - start - k))
all-count size len start k wide whole whole_image fits =
    ap (page_count size) (omega (arith, whole-div size start whole, whole-div size k whole_image, fits))
    ∙ whole-count size (start / size) (k / size * size + (len - start - k)) wide
    ∙ ap (λ n. start / size + n) (whole-count size (k / size) (len - start - k) wide)

pub reached-is : (size at : ℕ) (bytes : List ℕ) → 0 < length bytes → reached size at bytes ≡ (at + length bytes - 1) / size + 1 - at / size
reached-is size at [] some = absurd (omega (arith, some))
reached-is size at (b ∷ bytes) some = ap (λ k. k / size + 1 - at / size) (omega arith)

-- ---- how many are borrowed

count-append : (a b : List Bool) → count_lent (a ++ b) ≡ count_lent a + count_lent b
count-append [] b = omega arith
count-append (true ∷ a) b = omega (arith, count-append a b)
count-append (false ∷ a) b = omega (arith, count-append a b)

count-true : (n : ℕ) → count_lent (replicate n true) ≡ n
count-true zero = refl
count-true (suc n) = omega (arith, count-true n)

count-false : (n : ℕ) → count_lent (replicate n false) ≡ 0
count-false zero = refl
count-false (suc n) = omega (arith, count-false n)

pub image-count : (n k m : ℕ) (a b c : List Bool) → a ≡ replicate n false → b ≡ a ++ replicate k true → c ≡ b ++ replicate m false → count_lent c ≡ k
image-count n k m a b c first second third = omega (
  arith,
  ap count_lent third,
  count-append b (replicate m false),
  ap count_lent second,
  count-append a (replicate k true),
  ap count_lent first,
  count-false n,
  count-true k,
  count-false m,
)
