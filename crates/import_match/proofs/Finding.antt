-- The first definition under two names, and the one definition.
use Rattle.std.proofs.Common.{◌≡◌, ◌+◌, ℕ, zero, suc, true, false, List, [], ◌∷◌, ◌++◌, length, slice_get, All, Some, None, refl, ap, subst, ◌∙◌, arith, if◌then◌else◌, Option, ◌↔◌, ◌<◌, Bool, sym}
use Rattle.std.proofs.lemmas.Option.{none-some, same_Some}
use Rattle.std.proofs.lemmas.List.Elements.{All-head, All-tail}
use Rattle.std.proofs.lemmas.Bool.{cases_Bool, cond_both}
use Rattle.wasm_types.specs.declared.entity.EntityType.{EntityType}
use Rattle.import_match.specs.Definitions.{Definition, TwoNames, names_eq, found_from, found, AreOnce}
use Rattle.import_match.proofs.Named.{equal-names, names-equal}

-- ---- consecutive definitions

-- none has the names, wherever numbers begin
pub absent : (k : ℕ) (ds : List Definition) (n : TwoNames) → ((i : ℕ) (d : Definition) → slice_get ds i ≡ Some d → names_eq n d.0 ≡ false)
    → found_from k ds n ≡ None
absent k [] n none = refl
absent k (x ∷ ds) n none = grind (arith, none 0 x refl, absent (k + 1) ds n (λ i d at. none (suc i) d at))

pub none-has : (k : ℕ) (ds : List Definition) (n : TwoNames) → found_from k ds n ≡ None → (i : ℕ) (d : Definition) → slice_get ds i ≡ Some d → names_eq n d.0 ≡ false
none-has k [] n none i d at = absurd (none-some d at)
none-has k (x ∷ ds) n none zero d at = grind (arith, same_Some, cases_Bool)
none-has k (x ∷ ds) n none (suc i) d at = grind (arith, cases_Bool, (none-has (k + 1) ds n))

pub none-append : (k : ℕ) (ds es : List Definition) (n : TwoNames) → found_from k ds n ≡ None
    → ((j : ℕ) (d : Definition) → slice_get es j ≡ Some d → names_eq n d.0 ≡ false) → found_from k (ds ++ es) n ≡ None
none-append k [] es n none others = absent k es n others
none-append k (x ∷ ds) es n none others = grind (arith, cases_Bool, (none-append (k + 1) ds es n))

-- one more definition is found where none before it is
pub found-last : (k : ℕ) (ds : List Definition) (d : Definition) (n : TwoNames) → found_from k ds n ≡ None → names_eq n d.0 ≡ true
    → found_from k (ds ++ d ∷ []) n ≡ Some (k + length ds, d.1)
found-last k [] d n none test = let plus : k ≡ k + 0 = omega arith in ap (λ b. if b then Some (k, d.1) else None) test ∙ ap (λ (m : ℕ). Some (m, d.1)) plus
found-last k (x ∷ ds) d n none test = grind (arith, cases_Bool, (found-last (k + 1) ds d n))

-- under other names it changes nothing
pub found-others : (k : ℕ) (ds : List Definition) (d : Definition) (n : TwoNames) → names_eq n d.0 ≡ false
    → found_from k (ds ++ d ∷ []) n ≡ found_from k ds n
found-others k [] d n test = ap (λ b. if b then Some (k, d.1) else None) test
found-others k (x ∷ ds) d n test = ap (λ o. if names_eq n x.0 then Some (k, x.1) else o) (found-others (k + 1) ds d n test)

-- what holds of each type holds of the one that is found
pub found-type : (P : EntityType → Type 0) (k : ℕ) (ds : List Definition) (n : TwoNames) (i : ℕ) (t : EntityType) → All (λ (d : Definition). P d.1) ds
    → found_from k ds n ≡ Some (i, t) → P t
found-type P k [] n i t all is = absurd (none-some (i, t) is)
found-type P k (x ∷ ds) n i t all is =
    cond_both (names_eq n x.0) (Some (k, x.1)) (found_from (k + 1) ds n) (λ (o : Option (ℕ × EntityType)). o ≡ Some (i, t) → P t)
    (λ _. λ e. subst P (ap (λ (p : ℕ × EntityType). p.1) (same_Some (k, x.1) (i, t) e)) (All-head (λ (d : Definition). P d.1) x ds all))
    (λ _. found-type P (k + 1) ds n i t (All-tail (λ (d : Definition). P d.1) x ds all)) is

-- ---- the one definition under two names

-- what is found is at its number
found-stands : (k : ℕ) (ds : List Definition) (n : TwoNames) (p : ℕ) (t : EntityType) → found_from k ds n ≡ Some (p, t)
    → (i : ℕ) × (p ≡ k + i) × (slice_get ds i ≡ Some (n, t))
found-stands k [] n p t is = absurd (none-some (p, t) is)
found-stands k (x ∷ ds) n p t is = by (names_eq n x.0) refl is (found-stands (k + 1) ds n p t)
  where
    by : (b : Bool) → names_eq n x.0 ≡ b → (if b then Some (k, x.1) else found_from (k + 1) ds n) ≡ Some (p, t)
        → (found_from (k + 1) ds n ≡ Some (p, t) → (i : ℕ) × (p ≡ k + 1 + i) × (slice_get ds i ≡ Some (n, t)))
        → (i : ℕ) × (p ≡ k + i) × (slice_get (x ∷ ds) i ≡ Some (n, t))
    by true test h rest =
        let pair = same_Some (k, x.1) (p, t) h in
        let place : k ≡ p = ap (λ (y : ℕ × EntityType). y.0) pair in
        let type : x.1 ≡ t = ap (λ (y : ℕ × EntityType). y.1) pair in
        let names : n ≡ x.0 = equal-names n x.0 test in
        (0, omega (arith, place), λ j. Some (sym names j, type j))
    by false test h rest = let r = rest h in (suc r.0, omega (arith, r.1), r.2)

-- what is under names that no earlier one has is found
stands-found : (k : ℕ) (ds : List Definition) (n : TwoNames) (i : ℕ) (t : EntityType) → slice_get ds i ≡ Some (n, t)
    → ((j : ℕ) (d : Definition) → j < i → slice_get ds j ≡ Some d → d.0 ≡ n → ⊥) → found_from k ds n ≡ Some (k + i, t)
stands-found k [] n i t at before = absurd (none-some (n, t) at)
stands-found k (x ∷ ds) n zero t at before = grind (arith, names-equal, same_Some x (n, t))
stands-found k (x ∷ ds) n (suc i) t at before =
    let rest = stands-found (k + 1) ds n i t at (λ j d less here. before (suc j) d (omega (arith, less)) here) in
    let plus : k + 1 + i ≡ k + suc i = omega arith in
    let equal = cases_Bool (names_eq n x.0) in
    let first : names_eq n x.0 ≡ true → ⊥ = (λ test. before 0 x (omega arith) refl (sym (equal-names n x.0 test))) in
    grind arith

pub found-once : (ds : List Definition) → AreOnce ds → (n : TwoNames) (i : ℕ) (t : EntityType) → (found ds n ≡ Some (i, t)) ↔ (slice_get ds i ≡ Some (n, t))
found-once ds once n i t = grind (arith, found-stands, stands-found)
