-- Exception types in turn: what a builder makes of function types is what the definition makes of
-- them.
use Rattle.std.proofs.Common.{◌≡◌, ◌∙◌, ◌≤◌, ℕ, suc, ◌+◌, Bool, true, false, nat_eq, Some, None, List, [], ◌∷◌, ◌++◌, length, position, refl, sym, ap, subst, arith, length-append, append_assoc}
use Rattle.std.specs.Prelude.{◌==◌, unwrap_or, if◌then◌else◌}
use Rattle.std.specs.List.{fold, list_any, position_from, position_or_len}
use Rattle.std.proofs.lemmas.Bool.Decides.{nat_tests}
use Rattle.std.proofs.lemmas.Iterator.Adapters.{position_from-zero}
use Rattle.std.proofs.lemmas.List.{append-nil}
use Rattle.std.proofs.lemmas.List.Sums.{fold-append, fold_push}
use Rattle.entity_map.specs.Firsts.{with_first, firsts, firsts_after}
use Rattle.type_spec.specs.Interned.{Interned, Built, plain, exception_for, composite_at, with_exception, with_exceptions}
use Rattle.module_types.specs.Builder.{Builder, exception_index, excepts_by, excepts}

-- ---- the first position of a list at which a test passes

module _ (t : ℕ → Bool) where
  -- after some that fail
  from-behind : (xs ys : List ℕ) (i : ℕ) → list_any t xs ≡ false → position_from t i (xs ++ ys) ≡ position_from t (i + length xs) ys
  from-behind [] ys i none = grind arith
  from-behind (x ∷ xs) ys i none = grind (arith, from-behind xs ys (i + 1))

  -- where one passes, those after it do not count
  from-front : (xs ys : List ℕ) (i : ℕ) → list_any t xs ≡ true → position_from t i (xs ++ ys) ≡ position_from t i xs
  from-front [] ys i some = grind arith
  from-front (x ∷ xs) ys i some = grind (arith, from-front xs ys (i + 1))

  from-none : (xs : List ℕ) (i : ℕ) → list_any t xs ≡ false → position_from t i xs ≡ None
  from-none [] i none = refl
  from-none (x ∷ xs) i none = grind (arith, from-none xs (i + 1))

  from-some : (xs : List ℕ) (i : ℕ) → list_any t xs ≡ true → position_from t i xs ≡ Some (i + position_or_len t xs)
  from-some [] i some = grind arith
  from-some (x ∷ xs) i some = grind (arith, from-some xs (i + 1))

  from-start : (xs : List ℕ) (base i k : ℕ) → position_from t (base + i) xs ≡ Some k → base + unwrap_or (position_from t i xs) 0 ≡ k
  from-start [] base i k e = grind arith
  from-start (x ∷ xs) base i k e = grind (arith, from-start xs base (i + 1) k)

  -- counted from a number on
  place-is : (xs : List ℕ) (base k : ℕ) → position_from t base xs ≡ Some k → base + unwrap_or (position t xs) 0 ≡ k
  place-is xs base k e = grind (arith, position_from-zero t xs, from-start xs base 0 k)

-- ---- the first of some numbers stay

pub record Longer (known later : List ℕ) : Type 0 where
  pub more : List ℕ
  pub is : later ≡ known ++ more

pub longer : (ns known : List ℕ) → Longer known (firsts_after known ns)
longer [] known = record { more = []; is = sym (append-nil known) }
longer (n ∷ ns) known = by (list_any (λ k. k == n) known) (longer ns) where
  by : (b : Bool) → ((ks : List ℕ) → Longer ks (firsts_after ks ns)) → Longer known (firsts_after (if b then known else known ++ n ∷ []) ns)
  by true rest = rest known
  by false rest =
      let r = rest (known ++ n ∷ []) in
      record { more = n ∷ r.more; is = r.is ∙ append_assoc known (n ∷ []) r.more }

pub firsts-few : (ns known : List ℕ) → length (firsts_after known ns) ≤ length known + length ns
firsts-few [] known = omega arith
firsts-few (n ∷ ns) known = grind (arith, firsts-few ns known, firsts-few ns (known ++ n ∷ []), length-append known (n ∷ []))

-- ---- exception types come after the others, one for each function type

pub record Excepted (ks : List ℕ) (b : Built) : Type 0 where
  pub more : List Interned
  pub types : (fold with_exception b ks).types ≡ b.types ++ more
  pub counted : length more ≡ length ks

pub excepted : (ks : List ℕ) (b : Built) → Excepted ks b
excepted [] b = record { more = []; types = sym (append-nil b.types); counted = refl }
excepted (k ∷ ks) b =
    let rest = excepted ks (with_exception b k) in
    let t = plain (exception_for k (composite_at b.types k)) in
    record { more = t ∷ rest.more; types = rest.types ∙ append_assoc b.types (t ∷ []) rest.more; counted = ap suc rest.counted }

module _ (start : Built) where
  abbrev pub base : ℕ
  base = length start.types

  -- the exception types of some function types were requested in turn
  pub record Excepts (so_far : List ℕ) (b : Builder) : Type 0 where
    pub built : b.built ≡ with_exceptions start so_far
    pub at : (n : ℕ) → b.exceptions n ≡ position_from (λ k. k == n) base (firsts so_far)

  pub excepts-none : (b : Builder) → b.built ≡ start → ((n : ℕ) → b.exceptions n ≡ None) → Excepts [] b
  excepts-none b built none = record { built = built; at = none }

  module _ {so_far : List ℕ} {b : Builder} (x : Excepts so_far b) where
    abbrev known : List ℕ
    known = firsts so_far

    abbrev pub more : List Interned
    more = (excepted known start).more

    pub types-are : b.built.types ≡ start.types ++ more
    types-are = ap (λ (c : Built). c.types) x.built ∙ (excepted known start).types

    pub long : length b.built.types ≡ base + length known
    long = omega (arith, ap length types-are, length-append start.types more, (excepted known start).counted)

    module _ (n : ℕ) where
      abbrev test : ℕ → Bool
      test k = k == n

      -- the definition's step, by whether the function type is known
      next : (there : Bool) → list_any test known ≡ there → firsts (so_far ++ n ∷ []) ≡ (if there then known else known ++ n ∷ [])
      next there e = fold_push (with_first (λ k n. k == n)) [] so_far n ∙ ap (λ c. if c then known else known ++ n ∷ []) e

      ordered : (is : List ℕ) → firsts (so_far ++ n ∷ is) ≡ firsts_after (firsts (so_far ++ n ∷ [])) is
      ordered is = ap firsts (sym (append_assoc so_far (n ∷ []) is)) ∙ fold-append (with_first (λ k n. k == n)) [] (so_far ++ n ∷ []) is

      noted-at : list_any test known ≡ false → (m : ℕ)
          → (if nat_eq n m then Some (length b.built.types) else b.exceptions m) ≡ position_from (λ k. k == m) base (known ++ n ∷ [])
      noted-at none m =
          let t : ℕ → Bool = λ k. k == m in
          let same : n ≡ m → list_any t known ≡ false = λ e. subst (λ i. list_any (λ k. k == i) known ≡ false) e none in
          grind (arith, nat_tests, long, x.at m, same, from-front t known (n ∷ []) base, from-behind t known (n ∷ []) base, from-none t known base)

      unheld : list_any test known ≡ false → b.exceptions n ≡ None
      unheld e = x.at n ∙ from-none test known base e

      pub excepts-next : Excepts (so_far ++ n ∷ []) (excepts b n)
      excepts-next = by (list_any test known) refl where
        by : (there : Bool) → list_any test known ≡ there → Excepts (so_far ++ n ∷ []) (excepts b n)
        by true e =
            let same = sym (next true e) in
            let held = x.at n ∙ from-some test known base e in
            subst (Excepts (so_far ++ n ∷ [])) (sym (ap (excepts_by b n) held)) (record {
              built = x.built ∙ ap (fold with_exception start) same;
              at = λ m. x.at m ∙ ap (position_from (λ k. k == m) base) same;
            })
        by false e =
            let more = sym (next false e) in
            subst (Excepts (so_far ++ n ∷ [])) (sym (ap (excepts_by b n) (unheld e))) (record {
              built = ap (λ c. with_exception c n) x.built ∙ sym (fold_push with_exception start known n) ∙ ap (fold with_exception start) more;
              at = λ m. noted-at e m ∙ ap (position_from (λ k. k == m) base) more;
            })

      -- the index of the exception type is that of the function type among all that are requested
      pub index-is : (is : List ℕ) → exception_index b n ≡ base + unwrap_or (position test (firsts (so_far ++ n ∷ is))) 0
      index-is is = by (list_any test known) refl where
        by : (there : Bool) → list_any test known ≡ there
            → exception_index b n ≡ base + unwrap_or (position test (firsts (so_far ++ n ∷ is))) 0
        by true e =
            let l = longer is known in
            let all : firsts (so_far ++ n ∷ is) ≡ known ++ l.more = ordered is ∙ ap (λ ks. firsts_after ks is) (next true e) ∙ l.is in
            rw all (grind (
              arith,
              x.at n,
              from-front test known l.more base e,
              from-some test known base e,
              place-is test (known ++ l.more) base (base + position_or_len test known),
            ))
        by false e =
            let l = longer is (known ++ n ∷ []) in
            let all : firsts (so_far ++ n ∷ is) ≡ known ++ n ∷ l.more =
            ordered is ∙ ap (λ ks. firsts_after ks is) (next false e) ∙ l.is ∙ append_assoc known (n ∷ []) l.more in
            rw all (grind (
              arith,
              nat_tests,
              long,
              x.at n,
              from-none test known base e,
              from-behind test known (n ∷ l.more) base e,
              place-is test (known ++ n ∷ l.more) base (base + length known),
            ))
