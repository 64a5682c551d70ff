-- The rules in their order.
use Rattle.std.proofs.Common.{◌≡◌, ℕ, zero, suc, ◌+◌, ◌<◌, List, [], ◌∷◌, length, get_or, Result, Err, refl, sym, ap, subst, ◌∙◌, arith}
use Rattle.rule_spec.specs.declared.rules.Rule.{Rule}
use Rattle.rule_spec.specs.declared.rules.Rule.TheVariants.{L1, L2, L3, L4, L5, L6, L7, L8, L9, L10}
use Rattle.wasm_spec.specs.Module as plain
use Rattle.rule_spec.specs.Lists.{Lists, lists_of_module}
use Rattle.rule_spec.specs.Rules.{Satisfies, KeepsBefore, number_of}
use Rattle.form_rules.specs.declared.error.CheckError.{CheckError}
use Rattle.form_rules.specs.declared.error.CheckError.TheVariants.{Invalid}

-- the rules as they are checked, after the first
abbrev pub in_order : List Rule
in_order = L2 ∷ L3 ∷ L4 ∷ L5 ∷ L6 ∷ L7 ∷ L8 ∷ L9 ∷ L10 ∷ []

-- the rules have numbers one after another
abbrev Numbered : ℕ → List Rule → Type 0
Numbered k [] = Unit {0}
Numbered k (r ∷ rs) = (number_of r ≡ k) × Numbered (k + 1) rs

numbered_at : (rs : List Rule) (k i : ℕ) (d : Rule) → Numbered k rs → i < length rs → number_of (get_or rs i d) ≡ k + i
numbered_at [] k i d all lt = absurd (omega arith)
numbered_at (r ∷ rs) k zero d all lt = all.0 ∙ (let e : k ≡ k + 0 = omega arith in e)
numbered_at (r ∷ rs) k (suc i) d all lt = numbered_at rs (k + 1) i d all.1 (omega arith) ∙ (let e : (k + 1) + i ≡ k + suc i = omega arith in e)

number_at : (i : ℕ) (d : Rule) → i < 9 → number_of (get_or in_order i d) ≡ i + 2
number_at i d lt =
    let all : Numbered 2 in_order = (refl, (refl, (refl, (refl, (refl, (refl, (refl, (refl, (refl, tt))))))))) in
    numbered_at in_order 2 i d all lt ∙ (let e : 2 + i ≡ i + 2 = omega arith in e)

-- the first rule has the lowest number
pub first_kept : (l : Lists) → Satisfies L1 l → (r : Rule) → number_of r < 2 → Satisfies r l
first_kept l kept L1 lt = kept
first_kept l kept L2 lt = absurd (omega arith)
first_kept l kept L3 lt = absurd (omega arith)
first_kept l kept L4 lt = absurd (omega arith)
first_kept l kept L5 lt = absurd (omega arith)
first_kept l kept L6 lt = absurd (omega arith)
first_kept l kept L7 lt = absurd (omega arith)
first_kept l kept L8 lt = absurd (omega arith)
first_kept l kept L9 lt = absurd (omega arith)
first_kept l kept L10 lt = absurd (omega arith)

-- the rules before the one that is broken are kept
pub first_broken : {A : Type 0} (i : ℕ) (d rule : Rule) (l : Lists) (m : plain.Module) → i < 9
    → (let e : Result A CheckError = Err (Invalid (get_or in_order i d)) in e) ≡ Err (Invalid rule)
    → ((r : Rule) → number_of r < i + 2 → Satisfies r l) → l ≡ lists_of_module m → KeepsBefore rule m
first_broken i d rule l m lt is before same = λ lower less.
    let named : get_or in_order i d ≡ rule = cc in
    let number = sym (ap number_of named) ∙ number_at i d lt in
    subst (Satisfies lower) same (before lower (omega (arith, number, less)))
