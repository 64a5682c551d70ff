-- The exception types of a module's tags are among its interned types.
use Rattle.std.proofs.Common.{◌≡◌, ◌<◌, ◌≤◌, ℕ, ◌+◌, Bool, false, Option, Some, None, List, [], ◌∷◌, length, map, position, refl, ap, arith, length-append}
use Rattle.std.specs.Prelude.{◌==◌, unwrap_or}
use Rattle.std.proofs.lemmas.List.{length-map}
use Rattle.std.proofs.lemmas.List.Quantifiers.{position-Some}
use Rattle.wasm_spec.specs.Module as plain
use Rattle.type_spec.specs.Interned.{Built, with_exceptions, taken}
use Rattle.form_types.specs.Placed.{placed_groups}
use Rattle.entity_map.specs.Firsts.{firsts}
use Rattle.interned_types.specs.Types.{interned_at, interned_list, exception_at, exception_functions}
use Rattle.interned_types.proofs.Excepting.{excepted, longer}

exceptions-long : (start : Built) (ns : List ℕ) → length (with_exceptions start ns).types ≡ length start.types + length (firsts ns)
exceptions-long start ns =
    let e = excepted (firsts ns) start in
    omega (arith, ap length e.types, length-append start.types e.more, e.counted)

-- ---- of a module

-- the list without a startup type: the types of groups, and one for each function type of tags
pub listed-long : (m : plain.Module)
    → length (interned_list m false).types ≡ length (taken (placed_groups m)).built.types + length (exception_functions m)
listed-long m = exceptions-long (taken (placed_groups m)).built (map (interned_at m) (plain.tags m))

pub taken-within : (m : plain.Module) → length (taken (placed_groups m)).built.types ≤ length (interned_list m false).types
taken-within m = omega (arith, listed-long m)

some-first : (ns : List ℕ) → 0 < length ns → 0 < length (firsts ns)
some-first [] some = absurd (omega arith)
some-first (n ∷ ns) some = let l = longer ns (n ∷ []) in omega (arith, ap length l.is, length-append (n ∷ []) l.more)

place-among : (t : ℕ → Bool) (ks : List ℕ) → 0 < length ks → unwrap_or (position t ks) 0 < length ks
place-among t ks some = by (position t ks) refl where
  by : (o : Option ℕ) → position t ks ≡ o → unwrap_or o 0 < length ks
  by None is = some
  by (Some k) is = (position-Some t ks k 0 is).0

pub exception-below : (m : plain.Module) (i : ℕ) → 0 < length (plain.tags m) → exception_at m i < length (interned_list m false).types
exception-below m i some =
    let functions = map (interned_at m) (plain.tags m) in
    let start = (taken (placed_groups m)).built in
    let long : length (interned_list m false).types ≡ length start.types + length (exception_functions m) = listed-long m in
    let asked : 0 < length functions = omega (arith, some, length-map (plain.tags m) (interned_at m)) in
    let among = place-among (λ k. k == interned_at m i) (exception_functions m) (some-first functions asked) in
    omega (arith, long, among)
