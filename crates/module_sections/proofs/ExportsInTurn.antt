-- Exports, entered one after another.
use Rattle.std.proofs.Common.{◌≡◌, ℕ, ◌+◌, ◌≤◌, Bool, true, List, [], ◌∷◌, ◌++◌, suc, length, map, slice_get, All, Some, nat_eq, inl, inr, refl, sym, ap, subst, ◌∙◌, arith, append_assoc}
use Rattle.std.proofs.lemmas.List.{length-append, length-map}
use Rattle.std.proofs.lemmas.List.Elements.{All-cons}
use Rattle.std.proofs.lemmas.Bool.Decides.{eqb_tells}
use Rattle.indexmap.specs.IndexMap.{insert_entry}
use Rattle.entity_map.specs.Pool.{atom_number}
use Rattle.entity_map.specs.declared.pool.Atom.{Atom}
use Rattle.wasm_spec.specs.Module.{Export}
use Rattle.wasm_types.specs.declared.entity.EntityIndex.{EntityIndex}
use Rattle.form_rules.specs.Names.{exported_names}
use Rattle.module_sections.specs.Entities.{entity_at, resolved_export, exported_entities}
use Rattle.module_sections.specs.Exported.{entered_from, entered}
use Rattle.module_sections.specs.Pooled.{HasText}

-- ---- one export more

-- atoms are compared by their numbers
pub same-atom : (x y : Atom) → nat_eq x.0 y.0 ≡ true → x ≡ y
same-atom x y same = elim (eqb_tells x.0 y.0) [ inl equal ↦ λ j. record { 0 = equal.1 j } | inr other ↦ absurd (cc) ]

pub length-entered : (n : ℕ) (es : List Export) → length (entered_from n es) ≡ length es
length-entered n [] = refl
length-entered n (e ∷ es) = ap suc (length-entered (n + 1) es)

-- an atom after those of others is none of theirs
insert-behind : (eq : Atom → Atom → Bool) → ((x y : Atom) → eq x y ≡ true → x ≡ y) → (n : ℕ) (es : List Export) (k : Atom) (v : EntityIndex)
    → n + length es ≤ atom_number k → insert_entry eq (entered_from n es) k v ≡ entered_from n es ++ (k, v) ∷ []
insert-behind eq same n [] k v behind = refl
insert-behind eq same n (e ∷ es) k v behind =
    grind (arith, insert-behind eq same (n + 1) es k v, same k (record { 0 = n }), ap atom_number)

entered-push : (n : ℕ) (es : List Export) (e : Export) (k : Atom) → atom_number k ≡ n + length es
    → entered_from n (es ++ e ∷ []) ≡ entered_from n es ++ (k, entity_at e.kind e.index) ∷ []
entered-push n [] e k is = λ j. (record { 0 = (let same : n ≡ atom_number k = omega (arith, is) in same) j }, entity_at e.kind e.index) ∷ []
entered-push n (d ∷ es) e k is = grind (arith, entered-push (n + 1) es e k)

pub entered-more : (eq : Atom → Atom → Bool) → ((x y : Atom) → eq x y ≡ true → x ≡ y) → (before : List Export) (e : Export) (now after : List (Atom × EntityIndex))
    (k : Atom) (v : EntityIndex) → atom_number k ≡ length now → v ≡ entity_at e.kind e.index → after ≡ insert_entry eq now k v → now ≡ entered before
    → after ≡ entered (before ++ e ∷ [])
entered-more eq same before e now after k v place is inserted was =
    let at : atom_number k ≡ 0 + length before = omega (arith, place, ap length was, length-entered 0 before) in
    inserted ∙ (λ j. insert_entry eq (was j) k (is j)) ∙ insert-behind eq same 0 before k (entity_at e.kind e.index) (omega (arith, at))
    ∙ sym (entered-push 0 before e k at)

-- ---- all of them, in a pool that begins with their names

behind : {X : Type 0} (xs : List X) (x : X) (ys : List X) → slice_get (xs ++ x ∷ ys) (length xs) ≡ Some x
behind [] x ys = refl
behind (y ∷ xs) x ys = behind xs x ys

resolved-from : (texts before : List (List ℕ)) (es : List Export) (others : List (List ℕ)) → texts ≡ before ++ (exported_names es ++ others)
    → map (resolved_export texts) (entered_from (length before) es) ≡ exported_entities es
resolved-from texts before [] others is = refl
resolved-from texts before (e ∷ es) others is =
    let others_too = exported_names es ++ others in
    grind (
      arith,
      resolved-from texts (before ++ e.name ∷ []) es others (is ∙ sym (append_assoc before (e.name ∷ []) others_too)),
      behind before e.name others_too,
      length-append before (e.name ∷ []),
    )

pub entered-resolved : (texts : List (List ℕ)) (es : List Export) (others : List (List ℕ)) → texts ≡ exported_names es ++ others
    → (entries : List (Atom × EntityIndex)) → entries ≡ entered es → map (resolved_export texts) entries ≡ exported_entities es
entered-resolved texts es others is entries all = ap (map (resolved_export texts)) all ∙ resolved-from texts [] es others is

pooled-from : (texts : List (List ℕ)) (n : ℕ) (es : List Export) → n + length es ≤ length texts → All (λ e. HasText texts e.0) (entered_from n es)
pooled-from texts n [] within = λ k d lt. absurd (omega arith)
pooled-from texts n (e ∷ es) within = All-cons (λ (x : Atom × EntityIndex). HasText texts x.0) _ _ (omega (arith, within)) (pooled-from texts (n + 1) es (omega (arith, within)))

pub length-names : (texts : List (List ℕ)) (es : List Export) (others : List (List ℕ)) → texts ≡ exported_names es ++ others → length es ≤ length texts
length-names texts es others is =
    omega (arith, ap length is, length-append (exported_names es) others, length-map es (λ (e : Export). e.name))

pub entered-pooled : (texts : List (List ℕ)) (es : List Export) (others : List (List ℕ)) → texts ≡ exported_names es ++ others
    → (entries : List (Atom × EntityIndex)) → entries ≡ entered es → All (λ e. HasText texts e.0) entries
entered-pooled texts es others is entries all =
    subst (All (λ (e : Atom × EntityIndex). HasText texts e.0)) (sym all) (pooled-from texts 0 es (omega (arith, length-names texts es others is)))
