-- What a part spells weighs no more than its bytes: how such bounds are joined as parts are.
use Rattle.std.proofs.Common.{◌≡◌, ◌≤◌, ◌+◌, ℕ, zero, suc, List, [], ◌∷◌, length, Bool, true, false, sum_by, refl, ap, arith, length-append}
use Rattle.std.proofs.lemmas.List.Sums.{sum_by-cons}
use Rattle.wasm_spec.specs.Numbers.{SpellsUnsigned}
use Rattle.wasm_spec.specs.Parts.{Part, ◌>>=◌, gives, nothing, stops_at, unsigned, non_negative, measured, choose, checked, first_byte, elements, vector, counted_bytes, filled, sized}
use Rattle.wasm_spec.specs.declared.operators.What.{What}

-- a value that the part spells weighs no more than the bytes, and n that came before
pub record Weighs {A : Type 0} (n : ℕ) (weight : A → ℕ) (part : Part A) : Type 0 where
  pub within : (bytes : List ℕ) (x : A) → part.spells bytes x → weight x ≤ n + length bytes

-- ---- the basic parts

-- no byte: what came before is enough
pub gives-weighs : {A : Type 0} {n : ℕ} {weight : A → ℕ} (x : A) → weight x ≤ n → Weighs n weight (gives x)
gives-weighs {n = n} {weight = weight} x few = record { within = λ bytes y s. omega (arith, few, ap weight s.1) }

pub nothing-weighs : {A : Type 0} {n : ℕ} {weight : A → ℕ} → Weighs n weight nothing
nothing-weighs = record { within = λ bytes x s. absurd s }

pub stops-weigh : {A : Type 0} {n : ℕ} {weight : A → ℕ} (what : What) → Weighs n weight (stops_at what)
stops-weigh what = record { within = λ bytes x s. absurd s }

-- what came before is enough, whatever the bytes are
pub any-weighs : {A : Type 0} {n : ℕ} {weight : A → ℕ} (part : Part A) → ((x : A) → weight x ≤ n) → Weighs n weight part
any-weighs part few = record { within = λ bytes x s. omega (arith, few x) }

-- a number takes a byte
pub number-weighs : (n k : ℕ) → Weighs n (λ x. 1 + n) (unsigned k)
number-weighs n k = record { within = some } where
  some : (bytes : List ℕ) (x : ℕ) → SpellsUnsigned k bytes x → 1 + n ≤ n + length bytes
  some [] x s = absurd s.form
  some (b ∷ bytes) x s = omega arith

-- more may come before
pub more-weigh : {A : Type 0} {n m : ℕ} {weight : A → ℕ} (part : Part A) → n ≤ m → Weighs n weight part → Weighs m weight part
more-weigh part few one = record { within = λ bytes x s. let k = one.within bytes x s in omega (arith, few, k) }

-- and the value may weigh less
pub less-weigh : {A : Type 0} {n : ℕ} {weight : A → ℕ} (more : A → ℕ) (part : Part A) → ((x : A) → weight x ≤ more x) → Weighs n more part
    → Weighs n weight part
less-weigh more part few one = record { within = λ bytes x s. let k = one.within bytes x s in omega (arith, few x, k) }

pub signed-weighs : (n k : ℕ) → Weighs n (λ x. 1 + n) (non_negative k)
signed-weighs n k = record { within = some } where
  some : (bytes : List ℕ) (x : ℕ) → (non_negative k).spells bytes x → 1 + n ≤ n + length bytes
  some [] x s = absurd s.form
  some (b ∷ bytes) x s = omega arith

-- ---- joined parts

-- the value of the first part, and what came before it, come before the second part
pub then-weighs : {A B : Type 0} {n : ℕ} {before : A → ℕ} {weight : B → ℕ} {first : Part A} {second : A → Part B}
    → Weighs n before first → ((x : A) → Weighs (before x) weight (second x)) → Weighs n weight (first >>= second)
then-weighs {before = before} {weight = weight} {first = first} {second = second} one next = record {
  within = λ bytes y s.
      let a = one.within s.front s.value s.is_first in
      let b = (next s.value).within s.back y s.is_second in
      omega (arith, a, b, ap length s.parts, length-append s.front s.back);
}

-- the first part is not weighed
pub after-weighs : {A B : Type 0} {n : ℕ} {weight : B → ℕ} {first : Part A} {second : A → Part B}
    → ((x : A) → Weighs n weight (second x)) → Weighs n weight (first >>= second)
after-weighs {n = n} {first = first} next = then-weighs {before = λ x. n} (any-weighs first (λ x. omega arith)) next

pub choice-weighs : {A : Type 0} {n : ℕ} {weight : A → ℕ} (test : Bool) (p q : Part A) → Weighs n weight p → Weighs n weight q
    → Weighs n weight (choose test p q)
choice-weighs true p q a b = a
choice-weighs false p q a b = b

-- the byte comes before the part that it selects
pub first-weighs : {A : Type 0} {n : ℕ} {weight : A → ℕ} (part : ℕ → Part A) → ((b : ℕ) → Weighs (1 + n) weight (part b))
    → Weighs n weight (first_byte part)
first-weighs {A} {n} {weight} part next = record { within = some } where
  some : (bytes : List ℕ) (x : A) → (first_byte part).spells bytes x → weight x ≤ n + length bytes
  some [] x s = absurd s
  some (b ∷ bytes) x s = let m = (next b).within bytes x s in omega (arith, m)

-- that byte alone is weighed
pub byte-weighs : {A : Type 0} (n : ℕ) (part : ℕ → Part A) → Weighs n (λ x. 1 + n) (first_byte part)
byte-weighs n part = first-weighs part (λ b. any-weighs (part b) (λ x. omega arith))

pub checked-weighs : {A : Type 0} {n : ℕ} {weight : A → ℕ} (test : A → Bool) (part : Part A) → Weighs n weight part
    → Weighs n weight (checked test part)
checked-weighs test part one = record { within = λ bytes x s. one.within bytes x s.0 }

pub filled-weighs : {A : Type 0} {n : ℕ} {weight : A → ℕ} (part : Part A) (size : ℕ) → Weighs n weight part → Weighs n weight (filled part size)
filled-weighs part size one = record { within = λ bytes x s. one.within bytes x s.1 }

-- the size takes a byte
pub sized-weighs : {A : Type 0} {n : ℕ} {weight : A → ℕ} (part : Part A) → Weighs (1 + n) weight part → Weighs n weight (sized part)
sized-weighs {n = n} part one = then-weighs (number-weighs n 32) (λ size. filled-weighs part size one)

pub measured-weighs : {A : Type 0} {n : ℕ} (weight : A → ℕ) (part : Part A) → Weighs n weight part → Weighs n (λ x. weight x.0) (measured part)
measured-weighs weight part one = record { within = λ bytes x s. one.within bytes x.0 s.0 }

-- ---- lists

pub sum_by-ones : {A : Type 0} (xs : List A) → sum_by (λ x. 1) xs ≡ length xs
sum_by-ones [] = refl
sum_by-ones (x ∷ xs) = let more = sum_by-ones xs in omega (arith, more, sum_by-cons (λ y. 1) x xs)

pub sum_by-sucs : {A : Type 0} (weight : A → ℕ) (xs : List A) → sum_by (λ x. 1 + weight x) xs ≡ length xs + sum_by weight xs
sum_by-sucs weight [] = refl
sum_by-sucs weight (x ∷ xs) =
    let more = sum_by-sucs weight xs in
    omega (arith, more, sum_by-cons (λ y. 1 + weight y) x xs, sum_by-cons weight x xs)

-- the elements weigh together no more than their bytes
pub elements-weigh : {A : Type 0} {weight : A → ℕ} (part : Part A) (n count : ℕ) → Weighs 0 weight part
    → Weighs n (λ xs. n + sum_by weight xs) (elements part count)
elements-weigh part n zero one = gives-weighs [] (omega arith)
elements-weigh {weight = weight} part n (suc count) one =
    then-weighs {before = λ x. n + weight x} (record { within = λ bytes x s. let m = one.within bytes x s in omega (arith, m) })
    (λ x. then-weighs (elements-weigh part (n + weight x) count one)
    (λ xs. gives-weighs (x ∷ xs) (omega (arith, sum_by-cons weight x xs))))

-- and their count takes a byte too
pub vector-weighs : {A : Type 0} {weight : A → ℕ} (part : Part A) (n : ℕ) → Weighs 0 weight part
    → Weighs n (λ xs. 1 + n + sum_by weight xs) (vector part)
vector-weighs part n one = then-weighs (number-weighs n 32) (λ count. elements-weigh part (1 + n) count one)

-- their count takes a byte too
pub counted-weigh : (n : ℕ) → Weighs n (λ bytes. 1 + n + length bytes) counted_bytes
counted-weigh n = then-weighs (number-weighs n 32) (λ count. record { within = λ bytes x s. omega (arith, ap length s.0) })

-- elements that take a byte each
pub elements-count : {A : Type 0} (part : Part A) (n count : ℕ) → Weighs 0 (λ x. 1) part → Weighs n (λ xs. n + length xs) (elements part count)
elements-count part n count one = record {
  within = λ bytes xs s. let m = (elements-weigh part n count one).within bytes xs s in omega (arith, m, sum_by-ones xs);
}

pub vector-counts : {A : Type 0} (part : Part A) (n : ℕ) → Weighs 0 (λ x. 1) part → Weighs n (λ xs. 1 + n + length xs) (vector part)
vector-counts part n one = then-weighs (number-weighs n 32) (λ count. elements-count part (1 + n) count one)
