-- A module has at most two interned types for each declared type, one for each tag, and one for
-- startup.
use Rattle.std.proofs.Common.{◌≤◌, ◌+◌, ◌*◌, Bool, true, false, [], ◌∷◌, length, map, ap, arith, length-append}
use Rattle.std.proofs.lemmas.List.{length-map}
use Rattle.wasm_spec.specs.Module as plain
use Rattle.type_spec.specs.Interned.{startup_type, taken}
use Rattle.type_spec.proofs.Homes.{size}
use Rattle.form_types.specs.Placed.{placed_groups}
use Rattle.form_types.proofs.Ruled.{size-places}
use Rattle.module_types.proofs.FewTypes.{few as taken-few}
use Rattle.interned_types.proofs.Excepting.{excepted, firsts-few}
use Rattle.interned_types.specs.Types.{interned_at, interned_list, exception_functions}

module _ (m : plain.Module) where
  without : length (interned_list m false).types ≤ 2 * length (plain.types m) + length (plain.tags m)
  without =
      let gs = placed_groups m in
      let b = (taken gs).built in
      let e = excepted (exception_functions m) b in
      let groups : length b.types ≤ size gs + size gs = taken-few gs (size gs) (omega arith) in
      omega (
        arith,
        ap length e.types,
        length-append b.types e.more,
        e.counted,
        groups,
        size-places (plain.groups m),
        firsts-few (map (interned_at m) (plain.tags m)) [],
        length-map (plain.tags m) (interned_at m),
      )

  pub interned-count : (startup : Bool) → length (interned_list m startup).types ≤ 2 * length (plain.types m) + length (plain.tags m) + 1
  interned-count false = omega (arith, without)
  interned-count true = omega (arith, without, length-append (interned_list m false).types (startup_type ∷ []))
