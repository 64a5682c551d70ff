-- Where passive data segments find their bytes is determined by the module and the runtime data;
-- maps find nothing past their entries.
use Rattle.std.proofs.Common.{◌≡◌, ◌∙◌, ℕ, zero, suc, ◌+◌, ◌≤◌, List, [], ◌∷◌, ◌++◌, length, Option, None, Some, refl, sym, ap, subst, arith}
use Rattle.std.specs.Prelude.{slice_get, unwrap_or}
use Rattle.std.specs.Option.{option_map, option_and_then}
use Rattle.std.proofs.lemmas.Option.{slice_get_past, none-some}
use Rattle.entity_map.specs.Secondary.{Defaulted, value_at}
use Rattle.wasm_spec.specs.Module.{DataKind, Passive, Active, Segment}
use Rattle.wasm_index.specs.declared.index.Index.{Index}
use Rattle.wasm_index.specs.declared.spaces.PassiveElemSpace.{PassiveElemSpace}
use Rattle.wasm_index.specs.declared.spaces.RuntimeDataSpace.{RuntimeDataSpace}
use Rattle.wasm_index.specs.Index.{number_of}
use Rattle.init_plan.specs.Views.{FindsInOrder}
use Rattle.module_sections.specs.Initialisers.{passive_data_in, passive_data_from}
use Rattle.translate.specs.Also.{passive_bytes_of, Finds}

-- ---- in order

module _ (runtime : List (List ℕ)) (f g : ℕ → Option ℕ) where
  moved : (start i : ℕ) → f ((start + 1) + i) ≡ g ((start + 1) + i) → f (start + suc i) ≡ g (start + suc i)
  moved start i same = let e : (start + 1) + i ≡ start + suc i = omega arith in subst (λ (k : ℕ). f k ≡ g k) e same

  here : (start : ℕ) → f start ≡ g start → f (start + 0) ≡ g (start + 0)
  here start same = let e : start ≡ start + 0 = omega arith in subst (λ (k : ℕ). f k ≡ g k) e same

  -- what both find of the passive ones of some segments, of which the first has a place
  abbrev Agree : ℕ → List Segment → Type 0
  Agree start ss = (n : ℕ) → FindsInOrder runtime f n (passive_data_from start ss) → FindsInOrder runtime g n (passive_data_from start ss) → (index : ℕ) (bytes : List ℕ)
      → option_and_then passive_bytes_of (slice_get ss index) ≡ Some bytes → f (start + index) ≡ g (start + index)

  after : (kind : DataKind) (contents : List ℕ) (ss : List Segment) (start n : ℕ) → Agree (start + 1) ss
      → FindsInOrder runtime f n (passive_data_in kind start contents ++ passive_data_from (start + 1) ss)
      → FindsInOrder runtime g n (passive_data_in kind start contents ++ passive_data_from (start + 1) ss)
      → (index : ℕ) (bytes : List ℕ) → option_and_then passive_bytes_of (slice_get (record { kind = kind; bytes = contents } ∷ ss) index) ≡ Some bytes
      → f (start + index) ≡ g (start + index)
  after Passive contents ss start n later a b zero bytes is = here start (a.0 ∙ sym b.0)
  after Passive contents ss start n later a b (suc i) bytes is = moved start i (later (n + 1) a.2 b.2 i bytes is)
  after (Active memory offset) contents ss start n later a b zero bytes is = absurd (none-some bytes is)
  after (Active memory offset) contents ss start n later a b (suc i) bytes is = moved start i (later n a b i bytes is)

  in-order : (ss : List Segment) (start : ℕ) → Agree start ss
  in-order [] start n a b index bytes is = absurd (none-some bytes is)
  in-order (s ∷ ss) start n a b index bytes is = after s.kind s.bytes ss start n (in-order ss (start + 1)) a b index bytes is

  -- where nothing else is found they agree everywhere
  found-by : (wanted : Option (List ℕ)) (x y : Option ℕ) → Finds runtime x wanted → Finds runtime y wanted
      → ((bytes : List ℕ) → wanted ≡ Some bytes → x ≡ y) → x ≡ y
  found-by None None None a b same = refl
  found-by None (Some i) y a b same = absurd a
  found-by None None (Some j) a b same = absurd b
  found-by (Some bytes) x y a b same = same bytes refl

  pub found-same : (ss : List Segment) (n : ℕ) → FindsInOrder runtime f n (passive_data_from 0 ss) → FindsInOrder runtime g n (passive_data_from 0 ss)
      → ((index : ℕ) → Finds runtime (f index) (option_and_then passive_bytes_of (slice_get ss index)))
      → ((index : ℕ) → Finds runtime (g index) (option_and_then passive_bytes_of (slice_get ss index))) → (index : ℕ) → f index ≡ g index
  found-same ss n a b c d index = found-by (option_and_then passive_bytes_of (slice_get ss index)) (f index) (g index) (c index) (d index)
      (λ bytes is. (let e : 0 + index ≡ index = omega arith in subst (λ (k : ℕ). f k ≡ g k) e (in-order ss 0 n a b index bytes is)))

-- ---- what maps find past their entries

-- past the segments nothing is found, so that a map says nothing of places that it does not have
no-default : (runtime : List (List ℕ)) (found : Option ℕ) → Finds runtime found None → found ≡ None
no-default runtime None is = refl
no-default runtime (Some i) is = absurd is

none-mapped : {A B : Type 0} (f : A → B) (o : Option A) → option_map f o ≡ None → o ≡ None
none-mapped f None is = refl
none-mapped f (Some x) is = absurd cc

module _ (runtime : List (List ℕ)) (ss : List Segment) (m : Defaulted (Option (Index RuntimeDataSpace)))
    (finds : (index : ℕ) → Finds runtime (option_map number_of (value_at m index)) (option_and_then passive_bytes_of (slice_get ss index))) where
  past : (k : ℕ) → length m.items ≤ k → length ss ≤ k → option_map number_of m.default ≡ None
  past k far farther =
      let there : option_map number_of (value_at m k) ≡ None = no-default runtime _ (subst (λ (o : Option Segment). Finds runtime (option_map number_of (value_at m k)) (option_and_then passive_bytes_of o))
      (slice_get_past ss k farther) (finds k)) in
      subst (λ (o : Option (Option (Index RuntimeDataSpace))). option_map number_of (unwrap_or o m.default) ≡ None) (slice_get_past m.items k far) there

  pub default-none : m.default ≡ None
  default-none = none-mapped number_of m.default (past (length m.items + length ss) (omega arith) (omega arith))

-- so it is with the numbers of passive element segments
pub numbers-default : (numbers : List (Option ℕ)) (m : Defaulted (Option (Index PassiveElemSpace)))
    → ((index : ℕ) → option_map number_of (value_at m index) ≡ unwrap_or (slice_get numbers index) None) → m.default ≡ None
numbers-default numbers m is =
    let k = length m.items + length numbers in
    let there : option_map number_of (value_at m k) ≡ None = is k ∙ ap (λ (o : Option (Option ℕ)). unwrap_or o None) (slice_get_past numbers k (omega arith)) in
    none-mapped number_of m.default
    (subst (λ (o : Option (Option (Index PassiveElemSpace))). option_map number_of (unwrap_or o m.default) ≡ None) (slice_get_past m.items k (omega arith)) there)
