-- Each interned type of a module is a declared type, a function type, or the exception type of a
-- tag.
use Rattle.std.proofs.Common.{◌≡◌, ◌∙◌, ◌<◌, ℕ, ◌+◌, ◌-◌, cond, Bool, false, List, ◌++◌, length, get_or, map, position, Some, None, inl, inr, sym, ap, arith}
use Rattle.std.specs.Prelude.{◌⊎◌, ◌==◌, slice_get, unwrap_or, Contains}
use Rattle.std.specs.List.{position_or_len}
use Rattle.std.proofs.lemmas.Bool.{cases_lt, lt-ltb}
use Rattle.std.proofs.lemmas.List.{length-append, length-map, get_or-map}
use Rattle.std.proofs.lemmas.List.Elements.{Contains-get_or}
use Rattle.std.proofs.lemmas.Option.{slice_get-get_or}
use Rattle.wasm_spec.specs.Module.{types, tags}
use Rattle.wasm_spec.specs.Module as plain
use Rattle.type_spec.specs.Interned.{Interned, Built, kind_of_type, composite_at, taken}
use Rattle.form_types.specs.Placed.{placed_groups}
use Rattle.form_types.proofs.Ruled.{size-places}
use Rattle.entity_map.specs.Firsts.{firsts}
use Rattle.module_types.proofs.GroupMembers.{composite-before}
use Rattle.interned_types.specs.Types.{interned_at, interned_list, exception_at, exception_functions}
use Rattle.interned_types.proofs.Excepting.{excepted}
use Rattle.module_sections.proofs.FirstCauses.{contains-firsts, firsts-once}
use Rattle.plan_excess.proofs.Origins.{IsNumbered, IsFunctionAt, taken-origin}

-- the first position at which a test passes
placed : (test : ℕ → Bool) (xs : List ℕ) (p : ℕ) → position_or_len test xs ≡ p → p < length xs → unwrap_or (position test xs) 0 ≡ p
placed test xs p is lt =
    let low : position_or_len test xs < length xs = omega (arith, is, lt) in
    ap (λ b. unwrap_or (cond b (Some (position_or_len test xs)) None) 0) (lt-ltb (position_or_len test xs) (length xs) low) ∙ is

module _ (m : plain.Module) where
  -- the interned type is that of a declared type
  pub record IsDeclared (k : ℕ) : Type 0 where
    pub index : ℕ
    pub below : index < length (types m)
    pub number : interned_at m index ≡ k

  -- it is the exception type of a tag
  pub record IsException (k : ℕ) : Type 0 where
    pub tag : ℕ
    pub function : ℕ
    pub stands : slice_get (tags m) tag ≡ Some function
    pub number : exception_at m function ≡ k

  abbrev start : Built
  start = (taken (placed_groups m)).built

  abbrev listed : List Interned
  listed = (interned_list m false).types

  abbrev more : List Interned
  more = (excepted (exception_functions m) start).more

  parts : listed ≡ start.types ++ more
  parts = (excepted (exception_functions m) start).types

  counted : length more ≡ length (exception_functions m)
  counted = (excepted (exception_functions m) start).counted

  -- an exception type by its place among them
  exception-at : (p : ℕ) → p < length (exception_functions m) → IsException (length start.types + p)
  exception-at p lt =
      let ns = map (interned_at m) (tags m) in
      let f = get_or (firsts ns) p 0 in
      let in' : Contains ns f = (contains-firsts ns f).0 (Contains-get_or (firsts ns) p 0 lt) in
      let inside : in'.0 < length (tags m) = omega (arith, in'.1, length-map (tags m) (interned_at m)) in
      let i = get_or (tags m) in'.0 0 in
      let same : interned_at m i ≡ f = sym (get_or-map (interned_at m) (tags m) in'.0 0 f inside) ∙ in'.2 in
      record {
        tag = in'.0;
        function = i;
        stands = slice_get-get_or (tags m) in'.0 0 inside;
        number = ap (λ n. length start.types + unwrap_or (position (λ k. k == n) (firsts ns)) 0) same
            ∙ ap (λ n. length start.types + n) (placed (λ k. k == f) (firsts ns) p (firsts-once ns p lt) lt);
      }

  abbrev pub HasOrigin : ℕ → Type 0
  HasOrigin k = IsDeclared k ⊎ IsFunctionAt listed k ⊎ IsException k

  declared-origin : (k : ℕ) → k < length start.types → IsNumbered (placed_groups m) k ⊎ IsFunctionAt start.types k → HasOrigin k
  declared-origin k lt (inl x) = inl (record { index = x.index; below = omega (arith, x.below, size-places (plain.groups m)); number = x.number })
  declared-origin k lt (inr function) =
      inr (inl (ap (λ (ts : List Interned). kind_of_type (composite_at ts k)) parts
      ∙ ap (λ c. kind_of_type c) (composite-before start.types more k lt) ∙ function))

  pub origin : (k : ℕ) → k < length (interned_list m false).types → HasOrigin k
  origin k lt = elim (cases_lt k (length start.types)) [
    | inl low ↦ declared-origin k low (taken-origin (placed_groups m) k low)
    | inr from ↦
        (let p = k - length start.types in
        let at : length start.types + p ≡ k = omega (arith, from) in
        let inside : p < length (exception_functions m) = omega (arith, from, lt, ap length parts, length-append start.types more, counted) in
        inr (inr (coe 0 1 (j. IsException (at j)) (exception-at p inside))))
  ]
