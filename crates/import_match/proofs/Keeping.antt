-- Definitions that are kept in a map by their names, in the order of their numbers, and appended
-- one by one.
use Rattle.std.proofs.Common.{◌≡◌, ◌∙◌, ◌<◌, ℕ, suc, Bool, false, List, [], ◌∷◌, ◌++◌, length, All, Some, None, refl, ap, arith, if◌then◌else◌, zero, slice_get, sym, inl, inr, true≢false, ◌+◌, subst}
use Rattle.std.specs.Prelude.{nat_le, filter, cond, ◌⊎◌}
use Rattle.std.specs.BTreeMap.{is_at, insert_entry}
use Rattle.std.specs.Map.{lookup}
use Rattle.std.specs.Ordering.{is_eq, match_ordering}
use Rattle.std.specs.declared.cmp.Ordering.{Ordering}
use Rattle.std.proofs.lemmas.Bool.{le-leb, lt-leb, cond_both, false_from_ne_true, lt-ltb, both_ways}
use Rattle.std.proofs.lemmas.Option.{none-some, same_Some}
use Rattle.std.proofs.lemmas.List.Elements.{All-cons, All-head, All-tail, All-weaker}
use Rattle.std.proofs.lemmas.Bool.Decides.{nat_tests}
use Rattle.import_match.specs.declared.names.DefinitionNames.{DefinitionNames}
use Rattle.wasm_types.specs.declared.entity.EntityType.{EntityType}
use Rattle.import_match.specs.Kept.{MapEntry, put, by_number, entry_definition, in_order, is_below, DefinitionsAreKept}
use Rattle.import_match.specs.Definitions.{Definition, names_eq, found, AreOnce, names_of}
use Rattle.import_match.proofs.Finding.{none-append, none-has, found-last, found-others}
use Rattle.import_match.proofs.Named.{equal-names, names-equal, order-eq}
use Rattle.import_match.proofs.Listing.{All-slice_get, All-from_slice_get}
use Rattle.std.proofs.lemmas.List.{map_push, length-map}
use Rattle.import_match.specs.contracts.names.DefinitionNamesOrd.TheImpl as ordered

-- after those with smaller numbers
put-last : (e : MapEntry) (xs : List MapEntry) → All (λ (x : MapEntry). x.1.0 < e.1.0) xs → put e xs ≡ xs ++ e ∷ []
put-last e [] all = refl
put-last e (x ∷ xs) all = grind (arith, lt-leb e.1.0 x.1.0 (All-head (λ (y : MapEntry). y.1.0 < e.1.0) x xs all), put-last e xs (All-tail (λ (y : MapEntry). y.1.0 < e.1.0) x xs all))

-- before a last one with a greater number
put-push : (e n : MapEntry) (xs : List MapEntry) → e.1.0 < n.1.0 → put e (xs ++ n ∷ []) ≡ put e xs ++ n ∷ []
put-push e n [] less = ap (λ b. if b then e ∷ n ∷ [] else n ∷ e ∷ []) (le-leb e.1.0 n.1.0 (omega (arith, less)))
put-push e n (x ∷ xs) less = let rest = put-push e n xs less in grind (arith, nat_tests)

module _ (P : MapEntry → Type 0) where
  All-put : (e : MapEntry) (xs : List MapEntry) → P e → All P xs → All P (put e xs)
  All-put e [] holds all = All-cons P e [] holds all
  All-put e (x ∷ xs) holds all =
      cond_both (nat_le e.1.0 x.1.0) (e ∷ x ∷ xs) (x ∷ put e xs) (All P) (λ _. All-cons P e (x ∷ xs) holds all)
      (λ _. All-cons P x (put e xs) (All-head P x xs all) (All-put e xs holds (All-tail P x xs all)))

  pub All-by_number : (es : List MapEntry) → All P es → All P (by_number es)
  All-by_number [] all = all
  All-by_number (e ∷ es) all = All-put e (by_number es) (All-head P e es all) (All-by_number es (All-tail P e es all))

length-put : (e : MapEntry) (xs : List MapEntry) → length (put e xs) ≡ suc (length xs)
length-put e [] = refl
length-put e (x ∷ xs) = let rest = length-put e xs in grind (arith, nat_tests)

pub length-by_number : (es : List MapEntry) → length (by_number es) ≡ length es
length-by_number [] = refl
length-by_number (e ∷ es) = length-put e (by_number es) ∙ ap suc (length-by_number es)

-- ---- an entry at a key that is new

module _ (cmp : DefinitionNames → DefinitionNames → Ordering) (k : DefinitionNames) (v : ℕ × EntityType) where
  abbrev IsNewIn : List MapEntry → Type 0
  IsNewIn es = lookup (is_at (cmp k)) es ≡ None

  -- by the order of the key and the first one there
  module _ (e : MapEntry) (es : List MapEntry) where
    abbrev Seen : Ordering → Type 0
    Seen o = cond (is_eq o) (Some e.1) (lookup (is_at (cmp k)) es) ≡ None

    abbrev inserted : Ordering → List MapEntry
    inserted o = match_ordering o ((k, v) ∷ e ∷ es) ((e.0, v) ∷ es) (e ∷ insert_entry cmp es k v)

    -- what holds of an insertion before the first, and of one after it where it holds of the
    -- others, holds of each insertion
    by-order : (Q : List MapEntry → Type 0) → Q ((k, v) ∷ e ∷ es) → (IsNewIn es → Q (e ∷ insert_entry cmp es k v)) → (o : Ordering) → Seen o → Q (inserted o)
    by-order Q first behind o new = grind (arith, none-some)

  pub insert-last : (es : List MapEntry) → IsNewIn es → All (λ (e : MapEntry). e.1.0 < v.0) es → by_number (insert_entry cmp es k v) ≡ by_number es ++ (k, v) ∷ []
  insert-last [] new all = refl
  insert-last (e ∷ es) new all =
      by-order e es (λ l. by_number l ≡ by_number (e ∷ es) ++ (k, v) ∷ [])
      (put-last (k, v) (by_number (e ∷ es)) (All-by_number (λ (x : MapEntry). x.1.0 < v.0) (e ∷ es) all))
      (λ later. ap (put e) (insert-last es later (All-tail (λ (x : MapEntry). x.1.0 < v.0) e es all))
      ∙ put-push e (k, v) (by_number es) (All-head (λ (x : MapEntry). x.1.0 < v.0) e es all))
      (cmp k e.0) new

  pub insert-filter : (p : MapEntry → Bool) → p (k, v) ≡ false → (es : List MapEntry) → IsNewIn es → filter p (insert_entry cmp es k v) ≡ filter p es
  insert-filter p out [] new = ap (λ b. cond b ((k, v) ∷ []) []) out
  insert-filter p out (e ∷ es) new = grind (arith, by-order, (insert-filter p out es))

  pub insert-All : (P : MapEntry → Type 0) → P (k, v) → (es : List MapEntry) → IsNewIn es → All P es → All P (insert_entry cmp es k v)
  insert-All P holds [] new all = All-cons P (k, v) [] holds all
  insert-All P holds (e ∷ es) new all =
      by-order e es (All P)
      (All-cons P (k, v) (e ∷ es) holds all)
      (λ later. All-cons P e (insert_entry cmp es k v) (All-head P e es all) (insert-All P holds es later (All-tail P e es all)))
      (cmp k e.0) new

-- ---- definitions that are appended one by one

-- nothing is defined under the names
abbrev pub IsNew : List Definition → Definition → Type 0
IsNew ds d = found ds d.0 ≡ None

module _ (x : Definition) (rest : List Definition) (once : AreOnce (x ∷ rest)) where
  pub once-rest : AreOnce rest
  once-rest i j d e at_i at_j same = let one : suc i ≡ suc j = once (suc i) (suc j) d e at_i at_j same in omega (arith, one)

  -- a later one has other names
  other-names : (j : ℕ) (d : Definition) → slice_get rest j ≡ Some d → names_eq d.0 x.0 ≡ false
  other-names j d at = grind (arith, false_from_ne_true, equal-names, once (suc j) 0 d x)

  -- the later ones remain new once the first is defined
  pub new-rest : (ds : List Definition) → All (IsNew ds) (x ∷ rest) → All (IsNew (ds ++ x ∷ [])) rest
  new-rest ds new =
      All-from_slice_get (IsNew (ds ++ x ∷ [])) rest
      (λ j d at. none-append 0 ds (x ∷ []) d.0 (All-slice_get (IsNew ds) rest j d (All-tail (IsNew ds) x rest new) at) (alone j d at))
    where
      alone : (j : ℕ) (d : Definition) → slice_get rest j ≡ Some d → (i : ℕ) (e : Definition) → slice_get (x ∷ []) i ≡ Some e → names_eq d.0 e.0 ≡ false
      alone j d at zero e here = ap (λ (y : Definition). names_eq d.0 y.0) (sym (same_Some x e here)) ∙ other-names j d at
      alone j d at (suc i) e here = absurd (none-some e here)

-- what is at a position once there is one more
at-push : {X : Type 0} (xs : List X) (x y : X) (i : ℕ) → slice_get (xs ++ x ∷ []) i ≡ Some y → (slice_get xs i ≡ Some y) ⊎ ((i ≡ length xs) × (x ≡ y))
at-push [] x y zero at = inr (refl, same_Some x y at)
at-push [] x y (suc i) at = absurd (none-some y at)
at-push (z ∷ xs) x y zero at = inl at
at-push (z ∷ xs) x y (suc i) at = grind (arith, (at-push xs x y i at))

-- one more under new names is there once too
pub once-push : (ds : List Definition) (x : Definition) → AreOnce ds → IsNew ds x → AreOnce (ds ++ x ∷ [])
once-push ds x once new i j d e at_i at_j same =
    elim (at-push ds x d i at_i) [
      | inl before ↦ elim (at-push ds x e j at_j) [
        | inl before' ↦ once i j d e before before' same
        | inr last' ↦ absurd (apart i d before (same ∙ ap (λ (c : Definition). c.0) (sym last'.1)))
      ]
      | inr last ↦ elim (at-push ds x e j at_j) [
        | inl before' ↦ absurd (apart j e before' (sym same ∙ ap (λ (c : Definition). c.0) (sym last.1)))
        | inr last' ↦ last.0 ∙ sym last'.0
      ]
    ]
  where
    apart : (k : ℕ) (c : Definition) → slice_get ds k ≡ Some c → c.0 ≡ x.0 → ⊥
    apart k c at alike = true≢false (sym (names-equal x.0 c.0 (sym alike)) ∙ none-has 0 ds x.0 new k c at)

-- ---- definitions that are kept in a map by their names, where one more is inserted

pub length-in_order : (es : List MapEntry) → length (in_order es) ≡ length es
length-in_order es = length-map (by_number es) entry_definition ∙ length-by_number es

module _ (es : List MapEntry) (kept : DefinitionsAreKept es) (k : DefinitionNames) (t : EntityType) (new : found (in_order es) (names_of k) ≡ None) where
  abbrev d : Definition
  d = (names_of k, t)

  abbrev grown : List MapEntry
  grown = insert_entry ordered.ghosts.cmp es k (length es, t)

  pub new-key : lookup (is_at (ordered.ghosts.cmp k)) es ≡ None
  new-key = kept.finds k ∙ new

  pub listed : in_order grown ≡ in_order es ++ d ∷ []
  listed = grind (arith, insert-last, new-key, map_push)

  finds-grown : (q : DefinitionNames) → cond (is_eq (ordered.ghosts.cmp k q)) (Some (length es, t)) (lookup (is_at (ordered.ghosts.cmp q)) es)
      ≡ found (in_order es ++ d ∷ []) (names_of q)
  finds-grown q = grind (arith, equal-names, length-in_order, order-eq, found-last, names-equal, found-others, false_from_ne_true, both_ways)

  -- the map with one more, as the call reports it
  pub kept-grown : (after : List MapEntry) → after ≡ grown → length after ≡ length es + 1
      → ((q : DefinitionNames) → lookup (is_at (ordered.ghosts.cmp q)) after
      ≡ cond (is_eq (ordered.ghosts.cmp k q)) (Some (length es, t)) (lookup (is_at (ordered.ghosts.cmp q)) es))
      → DefinitionsAreKept after
  kept-grown after is size finds =
      let order : in_order after ≡ in_order es ++ d ∷ [] = ap in_order is ∙ listed in
      record {
        numbers =
            subst (All (λ (e : MapEntry). e.1.0 < length after)) (sym is)
            (insert-All ordered.ghosts.cmp k (length es, t) (λ (e : MapEntry). e.1.0 < length after) (omega (arith, size)) es new-key
            (All-weaker (λ (e : MapEntry). e.1.0 < length es) (λ (e : MapEntry). e.1.0 < length after) (λ e less. omega (arith, less, size)) es kept.numbers));
        finds = λ q. finds q ∙ finds-grown q ∙ ap (λ ds. found ds (names_of q)) (sym order);
        once = subst AreOnce (sym order) (once-push (in_order es) d kept.once new);
      }

-- all have smaller numbers than the count
pub below-all : (n : ℕ) (es : List MapEntry) → All (λ (e : MapEntry). e.1.0 < n) es → filter (is_below n) es ≡ es
below-all n [] all = refl
below-all n (e ∷ es) all = grind (arith, lt-ltb e.1.0 n (All-head (λ (x : MapEntry). x.1.0 < n) e es all), below-all n es (All-tail (λ (x : MapEntry). x.1.0 < n) e es all))
