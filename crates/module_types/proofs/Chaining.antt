-- Types that were recorded: chained by their digests, as the list grows and as one more is
-- recorded.
use Rattle.std.proofs.Common.{◌≡◌, ◌<◌, ◌≤◌, ℕ, zero, suc, ◌+◌, ◌-◌, Bool, true, false, cond, List, [], ◌∷◌, ◌++◌, length, take, map, Some, refl, sym, ap, ◌∙◌, inl, inr, arith, Option}
use Rattle.std.specs.Prelude.{◌⊎◌, slice_get, nat_eq, if◌then◌else◌, option_and_then, IsSome}
use Rattle.std.specs.Map.{lookup}
use Rattle.std.specs.Option.{option_map, unwrap_or}
use Rattle.std.proofs.lemmas.Option.{slice_get-map, slice_get_within, slice_get_past, get_or_from_slice_get}
use Rattle.std.proofs.lemmas.Bool.{eqb-true, eqb-false, cases_lt}
use Rattle.std.proofs.Math.Seq.{take-suc}
use Rattle.std.proofs.lemmas.List.{length-append, reverse-append, take_all, take-append-le, length-map, map-append}
use Rattle.wasm_types.specs.declared.func.WasmFuncType.{WasmFuncType}
use Rattle.wasm_types.specs.contracts.equal.WasmFuncTypePartialEq.TheImpl as func
use Rattle.module_types.proofs.Keys.{equal}
use Rattle.module_types.specs.MappedTypes.{MappedKey, known_in, entry_of, Leads, AreChained, mapped_key_of, mapped_keys, mapped_at, digest_of, newest_of, no_function, AreFoundByDigest, IsNoted}
use Rattle.entity_map.proofs.PoolLemmas.{slice_get-append_end}
use Rattle.wasm_index.specs.Index.{number_of}
use Rattle.wasm_types.specs.declared.sub.WasmSubType.{WasmSubType}
use Rattle.wasm_types.specs.Views.{func_in}
use Rattle.module_types.specs.Views.{TypeIndex}
use Rattle.module_types.specs.TypeParts.{part_at}
use Rattle.module_types.specs.declared.mapped_types.MappedType.{MappedType}
use Rattle.module_types.specs.declared.mapped_types.MappedTypes.{MappedTypes}

-- ---- equality of function types

by-test : {P : Type 0} (b : Bool) → (b ≡ true → P) → (b ≡ false → P) → P
by-test b holds fails = grind arith

pub unequal : (f g : WasmFuncType) → (f ≡ g → ⊥) → func.ghosts.eq f g ≡ false
unequal f g off = by-test (func.ghosts.eq f g) (λ e. absurd (off ((equal f g).0 e))) (λ e. e)

pub turned : (f g : WasmFuncType) → func.ghosts.eq f g ≡ func.ghosts.eq g f
turned f g = grind (arith, by-test, equal, unequal)

-- ---- lists

pub at-map : {X Y : Type 0} (f : X → Y) (xs : List X) (i : ℕ) (x : X) → slice_get xs i ≡ Some x → slice_get (map f xs) i ≡ Some (f x)
at-map f xs i x e = slice_get-map f xs i ∙ ap (option_map f) e

taken-more : {X : Type 0} (xs : List X) (i : ℕ) (x : X) → slice_get xs i ≡ Some x → take (suc i) xs ≡ take i xs ++ x ∷ []
taken-more xs i x e = grind (arith, take-suc xs i x, slice_get_within xs i x e, get_or_from_slice_get xs i x x e)

-- what a list with one more at its end holds
pub last-or : {X : Type 0} (xs : List X) (x : X) (i : ℕ) (y : X) → slice_get (xs ++ x ∷ []) i ≡ Some y → (slice_get xs i ≡ Some y) ⊎ ((i ≡ length xs) × (x ≡ y))
last-or [] x zero y e = let same : x ≡ y = cc in inr (refl, same)
last-or [] x (suc i) y e = absurd cc
last-or (z ∷ zs) x zero y e = inl e
last-or (z ∷ zs) x (suc i) y e = grind (arith, (last-or zs x i y e))

-- ---- one more

pub known-more : (rs : List MappedKey) (r : MappedKey) (f : WasmFuncType) → known_in (rs ++ r ∷ []) f ≡ cond (func.ghosts.eq f r.key) (Some r.ty) (known_in rs f)
known-more rs r f = ap (λ es. lookup (func.ghosts.eq f) (map entry_of es)) (reverse-append rs (r ∷ []))

-- a longer list leads as the shorter one did
leads-on : (digest : WasmFuncType → ℕ) (rs : List MappedKey) (f : WasmFuncType) (c n m : ℕ) → known_in (take m rs) f ≡ known_in (take n rs) f → n ≤ m
    → Leads digest rs f c n → Leads digest rs f c m
leads-on digest rs f c n m same long leads = grind arith

leads-within : (digest : WasmFuncType → ℕ) (rs : List MappedKey) (r : MappedKey) (f : WasmFuncType) (c n : ℕ) → n ≤ length rs
    → Leads digest rs f c n → Leads digest (rs ++ r ∷ []) f c n
leads-within digest rs r f zero n long leads = ap (λ es. known_in es f) (take-append-le n rs (r ∷ []) long) ∙ leads
leads-within digest rs r f (suc m) n long leads = grind (arith, take-append-le, long, last-or)

module _ (digest : WasmFuncType → ℕ) (newest : ℕ → ℕ) (rs : List MappedKey) (chained : AreChained digest newest rs) where
  -- one of a chain, which is another type
  pub steps-back : (f : WasmFuncType) (c : ℕ) (r : MappedKey) → Leads digest rs f c (length rs) → 0 < c → slice_get rs (c - 1) ≡ Some r
      → func.ghosts.eq f r.key ≡ false → Leads digest rs f r.before (length rs) × (r.before < c)
  steps-back f zero r leads some at other = absurd (omega (arith, some))
  steps-back f (suc m) r leads some at other =
      let back : suc m - 1 ≡ m = omega arith in
      let there : slice_get rs m ≡ Some r = ap (slice_get rs) (sym back) ∙ at in
      let less = leads.0 in
      let behind : Leads digest rs f r.before m = chained.next m r there f (sym (leads.2 r there)) in
      let same : known_in (take (length rs) rs) f ≡ known_in (take m rs) f =
      leads.1 ∙ ap (λ es. known_in es f) (taken-more rs m r there) ∙ known-more (take m rs) r f ∙ ap (λ b. cond b (Some r.ty) (known_in (take m rs) f)) other in
      (leads-on digest rs f r.before m (length rs) same (omega (arith, less)) behind, before-less r.before m behind) where
        before-less : (b n : ℕ) → Leads digest rs f b n → b < suc n
        before-less zero n l = omega arith
        before-less (suc k) n l = let less = l.0 in omega (arith, less)

  whole : (f : WasmFuncType) → known_in (take (length rs) rs) f ≡ known_in rs f
  whole f = ap (λ es. known_in es f) (take_all (length rs) rs (omega arith))

  -- one of a chain, which is the type
  pub found-there : (f : WasmFuncType) (c : ℕ) (r : MappedKey) → Leads digest rs f c (length rs) → 0 < c → slice_get rs (c - 1) ≡ Some r
      → func.ghosts.eq f r.key ≡ true → Some r.ty ≡ known_in rs f
  found-there f zero r leads some at is = absurd (omega (arith, some))
  found-there f (suc m) r leads some at is =
      let back : suc m - 1 ≡ m = omega arith in
      let there : slice_get rs m ≡ Some r = ap (slice_get rs) (sym back) ∙ at in
      sym (sym (whole f) ∙ leads.1 ∙ ap (λ es. known_in es f) (taken-more rs m r there) ∙ known-more (take m rs) r f ∙ ap (λ b. cond b (Some r.ty) (known_in (take m rs) f)) is)

  pub in-range : (f : WasmFuncType) (c : ℕ) → Leads digest rs f c (length rs) → 0 < c → c - 1 < length rs
  in-range f c leads some = grind arith

  -- one more is chained to the newest of its digest
  module _ (r : MappedKey) (behind : r.before ≡ newest (digest r.key)) (later : ℕ → ℕ)
      (puts : (q : ℕ) → later q ≡ (if nat_eq (digest r.key) q then suc (length rs) else newest q)) where
    abbrev all : List MappedKey
    all = rs ++ r ∷ []

    long : length all ≡ length rs + 1
    long = length-append rs (r ∷ [])

    of-all : (f : WasmFuncType) → known_in (take (length all) all) f ≡ known_in all f
    of-all f = ap (λ es. known_in es f) (take_all (length all) all (omega arith))

    to-it : (f : WasmFuncType) → digest r.key ≡ digest f → Leads digest all f (suc (length rs)) (length all)
    to-it f same = grind (arith, long, last-or, slice_get_within)

    past-it : (f : WasmFuncType) → (digest r.key ≡ digest f → ⊥) → Leads digest all f (newest (digest f)) (length all)
    past-it f off =
        let other : func.ghosts.eq f r.key ≡ false = unequal f r.key (λ e. off (sym (ap digest e))) in
        leads-on digest all f (newest (digest f)) (length rs) (length all)
        (of-all f ∙ known-more rs r f ∙ ap (λ b. cond b (Some r.ty) (known_in rs f)) other ∙ sym (whole f)
        ∙ sym (ap (λ es. known_in es f) (take-append-le (length rs) rs (r ∷ []) (omega arith))))
        (omega (arith, long))
        (leads-within digest rs r f (newest (digest f)) (length rs) (omega arith) (chained.first f))

    pub first-more : (f : WasmFuncType) → Leads digest all f (later (digest f)) (length all)
    first-more f =
        rw puts (by-test {P = Leads digest all f (if nat_eq (digest r.key) (digest f) then suc (length rs) else newest (digest f)) (length all)}
        (nat_eq (digest r.key) (digest f)) (λ e. rw e (to-it f (eqb-true (digest r.key) (digest f) e))) (λ e. rw e (past-it f (eqb-false (digest r.key) (digest f) e))))

    pub next-more : (i : ℕ) (s : MappedKey) → slice_get all i ≡ Some s → (f : WasmFuncType) → digest f ≡ digest s.key → Leads digest all f s.before i
    next-more i s at f same = elim (last-or rs r i s at) [
      | inl there ↦ (let less = slice_get_within rs i s there in leads-within digest rs r f s.before i (omega (arith, less)) (chained.next i s there f same))
      | inr end ↦ (
          let of_it : digest r.key ≡ digest f = ap (λ (t : MappedKey). digest t.key) end.1 ∙ sym same in
          let count : newest (digest f) ≡ s.before = ap newest (sym of_it) ∙ sym behind ∙ ap (λ (t : MappedKey). t.before) end.1 in
          let leads : Leads digest all f (newest (digest f)) (length rs) =
          leads-within digest rs r f (newest (digest f)) (length rs) (omega arith) (chained.first f) in
          coe 0 1 (j. Leads digest all f (count j) (sym end.0 j)) leads
          )
    ]

    pub chained-more : AreChained digest later all
    chained-more = record { first = first-more; next = next-more }

-- ---- types in a list

abbrev part_of : WasmSubType → Option WasmFuncType
part_of t = func_in t.composite_type.inner

abbrev Stand : List WasmSubType → List MappedType → Type 0
Stand types ms = (i : ℕ) (t : MappedType) → slice_get ms i ≡ Some t → IsSome (part_at func_in types t.ty)

-- the type that was read at an index
pub key-read : (types : List WasmSubType) (m : MappedType) (t : WasmSubType) (g : WasmFuncType) → slice_get types (number_of m.ty) ≡ Some t
    → func_in t.composite_type.inner ≡ Some g → (mapped_key_of types m).key ≡ g
key-read types m t g at is = ap (λ o. unwrap_or (option_and_then part_of o) no_function) at ∙ ap (λ o. unwrap_or o no_function) is

pub part-below : (types : List WasmSubType) (i : TypeIndex) → IsSome (part_at func_in types i) → number_of i < length types
part-below types i some = grind (arith, cases_lt, slice_get_past)

-- ---- the list grows

read-within : (ts us : List WasmSubType) (i : TypeIndex) → IsSome (part_at func_in ts i) → part_at func_in (ts ++ us) i ≡ part_at func_in ts i
read-within ts us i some = by ts (number_of i) some where
  by : (xs : List WasmSubType) (n : ℕ) → IsSome (option_and_then part_of (slice_get xs n)) → option_and_then part_of (slice_get (xs ++ us) n) ≡ option_and_then part_of (slice_get xs n)
  by [] n h = absurd cc
  by (x ∷ xs) zero h = refl
  by (x ∷ xs) (suc n) h = by xs n h

module _ (types more : List WasmSubType) where
  mapped_keys-within : (ms : List MappedType) → Stand types ms → mapped_keys (types ++ more) ms ≡ mapped_keys types ms
  mapped_keys-within [] stand = refl
  mapped_keys-within (m ∷ ms) stand =
      λ i. record { key = unwrap_or (read-within types more m.ty (stand 0 m refl) i) no_function; ty = m.ty; before = m.before } ∷ mapped_keys-within ms (λ k t. stand (suc k) t) i

  module _ (m : MappedTypes) (linked : AreFoundByDigest types m) where
    pub known-on : mapped_at (types ++ more) m ≡ mapped_at types m
    known-on = ap known_in (mapped_keys-within m.types.items linked.standing)

    pub linked-on : AreFoundByDigest (types ++ more) m
    linked-on = grind (arith, read-within, mapped_keys-within)

-- ---- one more is recorded

module _ (types : List WasmSubType) (old new : MappedTypes) (f : WasmFuncType) (ty : TypeIndex) (linked : AreFoundByDigest types old)
    (stands : part_at func_in types ty ≡ Some f) (digest : ℕ) (is : digest ≡ digest_of old.hasher f)
    (hasher : new.hasher ≡ old.hasher) (m : MappedType) (at : m.ty ≡ ty) (before : m.before ≡ newest_of old digest)
    (listed : new.types.items ≡ old.types.items ++ m ∷ [])
    (puts : (q : ℕ) → newest_of new q ≡ (if nat_eq digest q then suc (length old.types.items) else newest_of old q)) where
  abbrev r : MappedKey
  r = mapped_key_of types m

  part : part_at func_in types m.ty ≡ Some f
  part = ap (part_at func_in types) at ∙ stands

  key-is-f : r.key ≡ f
  key-is-f = ap (λ o. unwrap_or o no_function) part

  with-r : mapped_keys types new.types.items ≡ mapped_keys types old.types.items ++ r ∷ []
  with-r = ap (mapped_keys types) listed ∙ map-append (mapped_key_of types) old.types.items (m ∷ [])

  pub is-noted : IsNoted types old new f ty
  is-noted = record {
    linked = record { standing = grind (arith, last-or, part); chained = grind (arith, with-r, chained-more, is, key-is-f, length-map) };
    puts = grind (arith, with-r, known-more, key-is-f, turned);
  }

-- ---- none was recorded

pub linked-none : (types : List WasmSubType) (m : MappedTypes) → m.types.items ≡ [] → ((q : ℕ) → newest_of m q ≡ 0) → AreFoundByDigest types m
linked-none types m none nothing = grind arith

-- ---- the last of a list

pub part-at-end : (types : List WasmSubType) (t : WasmSubType) (i : TypeIndex) (f : WasmFuncType) → number_of i ≡ length types
    → func_in t.composite_type.inner ≡ Some f → part_at func_in (types ++ t ∷ []) i ≡ Some f
part-at-end types t i f end is = ap (option_and_then part_of) (ap (slice_get (types ++ t ∷ [])) end ∙ slice_get-append_end types t) ∙ is
