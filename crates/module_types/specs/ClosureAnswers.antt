-- What a look-up closure returns for the types of a module.
use Rattle.std.specs.Prelude.{◌≡◌, ◌<◌, ℕ}
use Rattle.std.proofs.Common.{sym, subst}
use Rattle.std.proofs.Math.Logic.{∥∥₁_prop, ∥∥₁_elim}
use Rattle.std.proofs.Math.Nat.{ℕ_set}
use Rattle.std.specs.Coded.{le_prop}
use Rattle.wasm_index.specs.declared.index.Index.{Index}
use Rattle.wasm_index.specs.declared.spaces.TypeSpace.{TypeSpace}
use Rattle.wasm_index.specs.Index.{number_of, index_of}
use Rattle.module_types.specs.Views.{TypeIndex}

-- what a closure may return at an index, and how many types are interned
module _ (Gives : Index TypeSpace → TypeIndex → Type 0) (count : ℕ) where
  -- its one result for a type of the module: an interned type
  pub record Answer (i : ℕ) : Type 0 where
    pub number : ℕ
    pub given : ∥ Gives (index_of i) (index_of number) ∥₁
    pub alone : (r : TypeIndex) → Gives (index_of i) r → number_of r ≡ number
    pub held : number < count

  -- it has one for each of the first types
  abbrev pub AnswersBelow : ℕ → Type 0
  AnswersBelow bound = (i : ℕ) → i < bound → Answer i

  -- so no two results differ
  answer-is : (i : ℕ) (x : Answer i) (n : ℕ) → x.number ≡ n → (g : ∥ Gives (index_of i) (index_of n) ∥₁)
      (a : (r : TypeIndex) → Gives (index_of i) r → number_of r ≡ n) (h : n < count) → x ≡ record { number = n; given = g; alone = a; held = h }
  answer-is i x n e =
      let P : ℕ → Type 0 = λ m. (g : ∥ Gives (index_of i) (index_of m) ∥₁) (a : (r : TypeIndex) → Gives (index_of i) r → number_of r ≡ m) (h : m < count)
      → x ≡ record { number = m; given = g; alone = a; held = h } in
      subst P e (λ g a h. λ j. record {
        number = x.number;
        given = ∥∥₁_prop x.given g j;
        alone = λ r p. ℕ_set (number_of r) x.number (x.alone r p) (a r p) j;
        held = le_prop x.held h j;
      })

  answer-prop : (i : ℕ) (x y : Answer i) → x ≡ y
  answer-prop i x y =
      let same : x.number ≡ y.number = ∥∥₁_elim y.given (ℕ_set x.number y.number) (λ p. sym (x.alone (index_of y.number) p)) in
      answer-is i x y.number same y.given y.alone y.held

  pub AnswersBelow-prop : (bound : ℕ) (x y : AnswersBelow bound) → x ≡ y
  AnswersBelow-prop bound x y = λ j i h. answer-prop i (x i h) (y i h) j
