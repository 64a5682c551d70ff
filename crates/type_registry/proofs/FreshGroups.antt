-- Groups that are not kept yet, found by their canonical members.
use Rattle.std.proofs.lemmas.Grind.{common_steps}
use Rattle.std.specs.Prelude.{[], cond}
use Rattle.std.proofs.Common.{◌≡◌, ◌∙◌, ◌↔◌, ◌<◌, ℕ, zero, suc, ◌+◌, Bool, true, false, List, ◌∷◌, ◌++◌, length, slice_get, Option, Some, None, refl, sym, arith}
use Rattle.std.proofs.lemmas.List.{length-append}
use Rattle.std.specs.Option.{option_map}
use Rattle.std.proofs.lemmas.Option.{none-some, same_Some}
use Rattle.std.proofs.lemmas.Bool.{cases_Bool, false_from_ne_true}
use Rattle.wasm_types.specs.declared.sub.WasmSubType.{WasmSubType}
use Rattle.type_registry.specs.Registry.{Group, Groups, indices_of}
use Rattle.type_registry.specs.Changes.{find_group}
use Rattle.type_registry.specs.Planning.{HasMembers, AreFresh}
use Rattle.type_registry.proofs.Keeping.{Eq}

abbrev Entry : Type 0
Entry = ℕ × Group

abbrev group_of : Entry → Group
group_of e = e.1

-- the one group that is equal is found
find-one : (es : Groups) (p : ℕ) (e : Entry) (c : List WasmSubType) → slice_get es p ≡ Some e → Eq e.1.canonical c ≡ true
    → ((q : ℕ) (f : Entry) → slice_get es q ≡ Some f → Eq f.1.canonical c ≡ true → q ≡ p) → find_group c es ≡ Some e.1
find-one [] p e c at holds only = absurd (none-some e at)
find-one (x ∷ es) zero e c at holds only = grind (arith, same_Some)
find-one (x ∷ es) (suc p) e c at holds only =
    grind (arith, cases_Bool (Eq x.1.canonical c), only 0 x refl, (find-one es p e c at holds (λ q f here is. grind (arith, only (suc q) f here is))))

find-no-one : (es : Groups) (c : List WasmSubType) → ((q : ℕ) (f : Entry) → slice_get es q ≡ Some f → Eq f.1.canonical c ≡ true → ⊥) → find_group c es ≡ None
find-no-one [] c none = refl
find-no-one (x ∷ es) c none = grind (arith, cases_Bool (Eq x.1.canonical c), none 0 x refl, (find-no-one es c (λ q f here is. none (suc q) f here is)))

-- an equal one would be found
none-there : (es : Groups) (c : List WasmSubType) (q : ℕ) (f : Entry) → find_group c es ≡ None → slice_get es q ≡ Some f → Eq f.1.canonical c ≡ true → ⊥
none-there [] c q f none at is = none-some f at
none-there (x ∷ es) c zero f none at is = grind arith
none-there (x ∷ es) c (suc q) f none at is =
    let rest : find_group c es ≡ None → ⊥ = (λ n. none-there es c q f n at is) in grind (arith, cases_Bool (Eq x.1.canonical c))

-- ---- one more group

-- a group of a longer list is the last or was there
data Where (es : Groups) (p : ℕ) (e f : Entry) : Type 0 where
  Last : p ≡ length es → f ≡ e → Where es p e f
  Earlier : p < length es → slice_get es p ≡ Some f → Where es p e f

pushed-at : (es : Groups) (e f : Entry) (p : ℕ) → slice_get (es ++ e ∷ []) p ≡ Some f → Where es p e f
pushed-at [] e f zero at = Last refl (same_Some f e (sym at))
pushed-at [] e f (suc p) at = absurd (none-some f at)
pushed-at (x ∷ es) e f zero at = Earlier (omega arith) at
pushed-at (x ∷ es) e f (suc p) at = grind (arith, (pushed-at es e f p at))

at-last : (es : Groups) (e : Entry) → slice_get (es ++ e ∷ []) (length es) ≡ Some e
at-last [] e = refl
at-last (x ∷ es) e = at-last es e

at-earlier : (es : Groups) (e f : Entry) (p : ℕ) → slice_get es p ≡ Some f → slice_get (es ++ e ∷ []) p ≡ Some f
at-earlier [] e f p at = absurd (none-some f at)
at-earlier (x ∷ es) e f zero at = at
at-earlier (x ∷ es) e f (suc p) at = at-earlier es e f p at

indices-pushed : (es : Groups) (e : Entry) → length (indices_of (es ++ e ∷ [])) ≡ length (indices_of es) + length e.1.indices
indices-pushed [] e = omega (arith, length-append e.1.indices (indices_of []))
indices-pushed (x ∷ es) e = grind (arith, length-append, (indices-pushed es e))

module _ {Key : Type 0} {content : Key → List WasmSubType} {places : Key → Option ℕ} {members : ℕ} {es : Groups} (k : AreFresh content places members es) where
  -- the map may be another that has the same entries
  pub fresh-same : (places' : Key → Option ℕ) → ((key : Key) → places' key ≡ places key) → AreFresh content places' members es
  fresh-same places' same = grind (arith, common_steps)

  module _ (equal : (x y : List WasmSubType) → (Eq x y ≡ true) ↔ (x ≡ y)) where
    pub found-fresh : (key : Key) (p : ℕ) → places key ≡ Some p → find_group (content key) es ≡ option_map group_of (slice_get es p)
    found-fresh key p is = let w = k.knows key p is in grind (arith, find-one es p w.entry (content key) w.at, k.found)

    pub not-fresh : (key : Key) → places key ≡ None → find_group (content key) es ≡ None
    not-fresh key none = grind (arith, find-no-one, none-some)

    module _ (places' : Key → Option ℕ) {members' : ℕ} (e : Entry) (unknown : find_group e.1.canonical es ≡ None)
        (learns : (q : Key) → places' q ≡ cond (Eq e.1.canonical (content q)) (Some (length es)) (places q)) (more : members' ≡ members + length e.1.indices) where
      abbrev es' : Groups
      es' = es ++ e ∷ []

      found' : (p : ℕ) (f : Entry) → slice_get es' p ≡ Some f → (key : Key) → content key ≡ f.1.canonical → places' key ≡ Some p
      found' p f at key has = grind (arith, pushed-at, false_from_ne_true, none-there)

      knows' : (key : Key) (p : ℕ) → places' key ≡ Some p → HasMembers es' p (content key)
      knows' key p is = by (Eq e.1.canonical (content key)) refl (sym (learns key) ∙ is) where
        by : (c : Bool) → Eq e.1.canonical (content key) ≡ c → cond c (Some (length es)) (places key) ≡ Some p → HasMembers es' p (content key)
        by true holds now = grind (arith, at-last)
        by false holds now = let w = k.knows key p now in record { entry = w.entry; at = at-earlier es e w.entry p w.at; same = w.same }

      pub fresh-pushed : AreFresh content places' members' es'
      fresh-pushed = grind (arith, indices-pushed, found', knows')
