-- Names of exports that are put into a pool one by one.
use Rattle.std.proofs.Common.{◌≡◌, ◌≢◌, ℕ, ◌<◌, zero, suc, Bool, true, false, ◌||◌, List, [], ◌∷◌, ◌++◌, length, get_or, refl, sym, ap, subst, ◌∙◌, arith, append_assoc}
use Rattle.std.specs.List.{list_any}
use Rattle.std.specs.Str.{bytes_eq}
use Rattle.std.proofs.lemmas.List.{append-nil, length-append, map-append, get_or_append_left, get_or_at}
use Rattle.std.proofs.lemmas.List.Folds.{list_any_at}
use Rattle.std.proofs.lemmas.List.Quantifiers.{all_pairs_push}
use Rattle.std.proofs.lemmas.Slice.Eq.{bytes_eq-Decides}
use Rattle.wasm_spec.specs.Module.{Export}
use Rattle.rule_spec.specs.Rules.{AreDistinct}
use Rattle.entity_map.specs.Pool.{with_text}
use Rattle.form_rules.specs.Names.{exported_names}

-- ---- one name among others

any_true : {X : Type 0} (p : X → Bool) (xs : List X) → list_any p xs ≡ true → (j : ℕ) × (j < length xs) × ((d : X) → p (get_or xs j d) ≡ true)
any_true p [] some = absurd (cc)
any_true {X = X} p (x ∷ xs) some = cases (p x) refl some (λ any. any_true p xs any) where
  cases : (b : Bool) → p x ≡ b → b || list_any p xs ≡ true
      → (list_any p xs ≡ true → (j : ℕ) × (j < length xs) × ((d : X) → p (get_or xs j d) ≡ true))
      → (j : ℕ) × (j < length (x ∷ xs)) × ((d : X) → p (get_or (x ∷ xs) j d) ≡ true)
  cases true is any more = (zero, omega arith, λ d. is)
  cases false is any more = let found = more any in (suc found.0, omega (arith, found.1), found.2)

any_named : (name : List ℕ) (es : List Export) → list_any (bytes_eq name) (exported_names es) ≡ list_any (λ (e : Export). bytes_eq name e.name) es
any_named name [] = refl
any_named name (e ∷ es) = ap (λ b. bytes_eq name e.name || b) (any_named name es)

distinct_front : (xs ys : List Export) → AreDistinct (xs ++ ys) → AreDistinct xs
distinct_front xs ys all i j d lt in' =
    let left : get_or (xs ++ ys) i d ≡ get_or xs i d = get_or_append_left xs ys d i (omega arith) in
    let right : get_or (xs ++ ys) j d ≡ get_or xs j d = get_or_append_left xs ys d j in' in
    let apart = all i j d lt (omega (arith, length-append xs ys)) in
    λ same. apart (ap (λ (e : Export). e.name) left ∙ same ∙ sym (ap (λ (e : Export). e.name) right))

-- a name that is new leaves names distinct
distinct_more : (es : List Export) (e : Export) → list_any (bytes_eq e.name) (exported_names es) ≡ false → AreDistinct es → AreDistinct (es ++ e ∷ [])
distinct_more es e absent distinct =
    all_pairs_push (λ (a b : Export). a.name ≢ b.name) es e distinct (λ k d lt same.
    let there = list_any_at (λ (x : Export). bytes_eq e.name x.name) es k d lt ((bytes_eq-Decides e.name (get_or es k d).name).1 (sym same)) in
    let none = sym (any_named e.name es) ∙ absent in
    absurd (cc))

-- and one that is present does not
repeated : (es : List Export) (e : Export) → list_any (bytes_eq e.name) (exported_names es) ≡ true → AreDistinct (es ++ e ∷ []) → ⊥
repeated es e present distinct =
    let found = any_true (λ (x : Export). bytes_eq e.name x.name) es (sym (any_named e.name es) ∙ present) in
    let left : get_or (es ++ e ∷ []) found.0 e ≡ get_or es found.0 e = get_or_append_left es (e ∷ []) e found.0 found.1 in
    let right : get_or (es ++ e ∷ []) (length es) e ≡ e = get_or_at es e [] e (length es) refl in
    distinct found.0 (length es) e found.1 (omega (arith, length-append es (e ∷ [])))
    (ap (λ (x : Export). x.name) left ∙ sym ((bytes_eq-Decides e.name (get_or es found.0 e).name).0 (found.2 e)) ∙ sym (ap (λ (x : Export). x.name) right))

-- ---- over exports

-- the pool has the names of some exports, in order, and the others remain
pub record Gathers (texts : List (List ℕ)) (left all : List Export) : Type 0 where
  pub done : List Export
  pub names : texts ≡ exported_names done
  pub distinct : AreDistinct done
  pub whole : done ++ left ≡ all

pub gathers-none : (texts : List (List ℕ)) (left all : List Export) → texts ≡ [] → left ≡ all → Gathers texts left all
gathers-none texts left all empty at = record { done = []; names = empty; distinct = λ i j d lt within. absurd (omega arith); whole = at }

pub gathers-all : (texts : List (List ℕ)) (left all : List Export) → Gathers texts left all → left ≡ [] → (texts ≡ exported_names all) × AreDistinct all
gathers-all texts left all gathers at =
    let whole = sym (append-nil gathers.done) ∙ ap (λ (es : List Export). gathers.done ++ es) (sym at) ∙ gathers.whole in
    (gathers.names ∙ ap exported_names whole, subst AreDistinct whole gathers.distinct)

module _ (texts : List (List ℕ)) (left rest all : List Export) (e : Export) (gathers : Gathers texts left all) (at : left ≡ e ∷ rest) where
  through : (gathers.done ++ e ∷ []) ++ rest ≡ all
  through = append_assoc gathers.done (e ∷ []) rest ∙ ap (λ (es : List Export). gathers.done ++ es) (sym at) ∙ gathers.whole

  pub gathers-more : (more : List (List ℕ)) → list_any (bytes_eq e.name) texts ≡ false → more ≡ with_text texts e.name → Gathers more rest all
  gathers-more more absent is = record {
    done = gathers.done ++ e ∷ [];
    names = is ∙ rw absent (ap (λ (ts : List (List ℕ)). ts ++ e.name ∷ []) gathers.names ∙ sym (map-append (λ (x : Export). x.name) gathers.done (e ∷ [])));
    distinct = distinct_more gathers.done e (ap (list_any (bytes_eq e.name)) (sym gathers.names) ∙ absent) gathers.distinct;
    whole = through;
  }

  pub gathers-fails : list_any (bytes_eq e.name) texts ≡ true → AreDistinct all → ⊥
  gathers-fails present distinct =
      repeated gathers.done e (ap (list_any (bytes_eq e.name)) (sym gathers.names) ∙ present)
      (distinct_front (gathers.done ++ e ∷ []) rest (subst AreDistinct (sym through) distinct))
