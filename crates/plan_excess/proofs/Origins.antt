-- Each interned type of the groups of a module is a declared type, or a function type.
use Rattle.std.proofs.Common.{◌≡◌, ◌∙◌, ◌<◌, ◌≤◌, ℕ, ◌+◌, ◌-◌, false, List, [], ◌∷◌, ◌++◌, length, get_or, Option, inl, inr, refl, ap, subst, arith}
use Rattle.std.specs.Prelude.{◌⊎◌}
use Rattle.std.proofs.lemmas.Bool.{cases_lt}
use Rattle.std.proofs.lemmas.List.{length-map, length-append}
use Rattle.std.proofs.lemmas.List.FromFn.{length-map-range_with_len}
use Rattle.wasm_spec.specs.TypeData.{Group, Func}
use Rattle.type_spec.specs.Names.{FuncName}
use Rattle.type_spec.specs.Equality.{Home, home}
use Rattle.type_spec.specs.Interned.{Interned, Called, Built, Taking, plain, mapped, opened, with_group, kind_of_type, composite_at, numbered, interned_group, taken}
use Rattle.type_spec.proofs.Homes.{size, home-within, home-again}
use Rattle.type_spec.proofs.Equivalence.{home-start}
use Rattle.module_types.proofs.GroupMembers.{Extends, extends-none, extends-both, extends-group, all-steps, trampoline_set, trampoline_next, composite-before, composite-behind, types-apart}
use Rattle.module_types.proofs.Taking.{IsMet, is_met, after, state, done_at, through-places, number-old, number-new, met-before, met-now, equal-home, reads, reaches}

-- the type at a position is a function type
abbrev pub IsFunctionAt : List Interned → ℕ → Type 0
IsFunctionAt ts k = kind_of_type (composite_at ts k) ≡ FuncName

-- ---- types that come after others

-- those that come after are function types
record AddsFunctions (b c : Built) : Type 0 where
  extends : Extends b c
  functions : (k : ℕ) → length b.types ≤ k → k < length c.types → IsFunctionAt c.types k

kept-at : (b c : Built) → Extends b c → (k : ℕ) → k < length b.types → composite_at c.types k ≡ composite_at b.types k
kept-at b c x k lt = ap (λ (ts : List Interned). composite_at ts k) x.types ∙ composite-before b.types x.types_more k lt

adds-none : (b : Built) → AddsFunctions b b
adds-none b = record { extends = extends-none b; functions = λ k low lt. absurd (omega (arith, low, lt)) }

adds-called : (b : Built) (known : Called → Option ℕ) (i k : ℕ) → AddsFunctions b (trampoline_set b known i k)
adds-called b known i k = record { extends = extends-none b; functions = λ k low lt. absurd (omega (arith, low, lt)) }

adds-next : (b : Built) (known : Called → Option ℕ) (i : ℕ) (f : Called) → AddsFunctions b (trampoline_next b known i f)
adds-next b known i f =
    let t = plain (Func (mapped f)) in
    record {
      extends = record { types_more = t ∷ []; types = refl; groups_more = _; groups = refl };
      functions = λ k low lt.
          let at : k ≡ length b.types + 0 = omega (arith, low, lt, length-append b.types (t ∷ [])) in
          ap (λ (n : ℕ). kind_of_type (composite_at (b.types ++ t ∷ []) n)) at ∙ ap (λ c. kind_of_type c) (composite-behind b.types (t ∷ []) 0);
    }

adds-both : (b c d : Built) → AddsFunctions b c → AddsFunctions c d → AddsFunctions b d
adds-both b c d x y = record {
  extends = extends-both b c d x.extends y.extends;
  functions = λ k low lt. elim (cases_lt k (length c.types)) [
    | inl inside ↦ ap (λ t. kind_of_type t) (kept-at c d y.extends k inside) ∙ x.functions k low inside
    | inr past ↦ y.functions k past lt
  ];
}

-- a group, and then trampolines
adds-group : (b : Built) (ts : List Interned) → AddsFunctions (opened b ts) (with_group b ts)
adds-group b ts = all-steps AddsFunctions adds-none adds-called adds-next adds-both (opened b ts) (length b.types) ts

-- ---- groups

module _ (all : List (Group ℕ ℕ)) where
  -- the type at a position of some groups that were taken is one of theirs, or a function type
  record IsTakenAt (done : List Home) (t : Taking) (k : ℕ) : Type 0 where
    index : ℕ
    below : index < size all
    met : IsMet all done index
    number : t.number index ≡ k

  abbrev Originate : ℕ → List Home → Taking → Type 0
  Originate n done t = (k : ℕ) → k < length t.built.types → IsTakenAt done t k ⊎ IsFunctionAt t.built.types k

  module _ (n : ℕ) (inside : n < size all) (done : List Home) (t : Taking) (unmet : is_met all done (home all n) ≡ false) (old : Originate n done t) where
    abbrev h : Home
    h = home all n

    abbrev members : List Interned
    members = interned_group all (numbered all t.number h (length t.built.types)) h.members

    abbrev later : Taking
    later = after all done t h unmet

    long : length members ≡ length h.members
    long = length-map h.members _

    types-are : later.built.types ≡ t.built.types ++ (members ++ (extends-group t.built members).types_more)
    types-are = types-apart t.built members (with_group t.built members) (extends-group t.built members)

    before : (k : ℕ) → k < length t.built.types → IsTakenAt (done ++ h ∷ []) later k ⊎ IsFunctionAt later.built.types k
    before k lt = elim (old k lt) [
      | inl x ↦ inl (record {
        index = x.index;
        below = x.below;
        met = met-before all done h x.index x.met;
        number = number-old all done t h unmet x.index x.met ∙ x.number;
      })
      | inr function ↦ inr (ap (λ (ts : List Interned). kind_of_type (composite_at ts k)) types-are
          ∙ ap (λ c. kind_of_type c) (composite-before t.built.types _ k lt) ∙ function)
    ]

    member : (j : ℕ) → j < length h.members → IsTakenAt (done ++ h ∷ []) later (length t.built.types + j)
    member j lt =
        let w = home-within all n inside in
        let i = h.start + j in
        let again : home all i ≡ h = home-again all n i inside (record { from = omega arith; to = omega (arith, lt) }) in
        let equal = equal-home all h i again in
        record {
          index = i;
          below = omega (arith, lt, w.high);
          met = met-now all done h i equal;
          number = number-new all done t h unmet i equal
              ∙ ap (λ (g : Home). length t.built.types + (i - g.start)) again ∙ omega arith;
        }

    originate-new : Originate (n + 1) (done ++ h ∷ []) later
    originate-new k lt = elim (cases_lt k (length t.built.types)) [
      | inl low ↦ before k low
      | inr from ↦ elim (cases_lt k (length t.built.types + length h.members)) [
        | inl within ↦
            (let at : length t.built.types + (k - length t.built.types) ≡ k = omega (arith, from) in
            inl (subst (IsTakenAt (done ++ h ∷ []) later) at (member (k - length t.built.types) (omega (arith, from, within)))))
        | inr past ↦ inr ((adds-group t.built members).functions k (omega (arith, past, long, length-append t.built.types members)) lt)
      ]
    ]

  originate : (n : ℕ) → n ≤ size all → Originate n (done_at all n) (state all n)
  originate =
      through-places all Originate (λ k lt. absurd (omega (arith, lt)))
      (λ n lt old met. old)
      (λ n lt old unmet. originate-new n lt (done_at all n) (state all n) unmet old)

  -- each interned type of the groups is that of a type, or a function type
  pub record IsNumbered (k : ℕ) : Type 0 where
    pub index : ℕ
    pub below : index < size all
    pub number : get_or (taken all).declared index 0 ≡ k

  pub taken-origin : (k : ℕ) → k < length (taken all).built.types → IsNumbered k ⊎ IsFunctionAt (taken all).built.types k
  taken-origin k lt = elim (originate (size all) (omega arith) k lt) [
    | inl x ↦ inl (record {
      index = x.index;
      below = x.below;
      number = reads all (size all) x.index (omega arith) x.below x.met ∙ x.number;
    })
    | inr function ↦ inr function
  ]

  -- each type of the groups is interned
  pub taken-long : length (taken all).declared ≡ size all
  taken-long = length-map-range_with_len (state all (size all)).number 0 (size all)

  pub taken-below : (i : ℕ) → i < size all → get_or (taken all).declared i 0 < length (taken all).built.types
  taken-below i lt =
      let r = reaches all (size all) (omega arith) in
      let met = r.before i lt (omega (arith, lt, home-start all i)) in
      omega (arith, reads all (size all) i (omega arith) lt met, r.below i lt met)
