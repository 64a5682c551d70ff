-- A module has at most two interned types for each byte.
use Rattle.std.proofs.Common.{◌≡◌, ◌≤◌, ◌+◌, ◌*◌, ℕ, Bool, true, false, List, [], ◌∷◌, length, map, ap, arith, length-append}
use Rattle.std.specs.List.{flat_map}
use Rattle.std.proofs.lemmas.List.{length-map}
use Rattle.wasm_spec.specs.Grammar.{header}
use Rattle.wasm_spec.specs.Module.{tag_import, imported_of, tags_of_section}
use Rattle.wasm_spec.specs.Module as plain
use Rattle.type_spec.specs.Interned.{startup_type, taken}
use Rattle.type_spec.proofs.Homes.{size}
use Rattle.form_reader.proofs.Entries.{imported_few, sections_few, total_members}
use Rattle.form_types.specs.Placed.{placed_groups}
use Rattle.form_types.proofs.Ruled.{size-places}
use Rattle.module_types.proofs.FewTypes.{few as taken-few}
use Rattle.interned_types.proofs.Excepting.{excepted, firsts-few}
use Rattle.module_environ.specs.Readable.{IsReadable}
use Rattle.interned_types.specs.Types.{interned_at, interned_list, exception_functions}

-- the list without a startup type: the types of groups, and one for each function type of tags
listed-long : (m : plain.Module)
    → length (interned_list m false).types ≡ length (taken (placed_groups m)).built.types + length (exception_functions m)
listed-long m =
    let e = excepted (exception_functions m) (taken (placed_groups m)).built in
    omega (arith, ap length e.types, length-append (taken (placed_groups m)).built.types e.more, e.counted)

module _ (bytes : List ℕ) (m : plain.Module) (read : IsReadable bytes m) where
  -- the bytes of the header allow for the startup type
  without : length (interned_list m false).types + 1 ≤ 2 * length bytes
  without =
      let gs = placed_groups m in
      let groups : length (taken gs).built.types ≤ size gs + size gs = taken-few gs (size gs) (omega arith) in
      omega (
        arith,
        listed-long m,
        groups,
        size-places (plain.groups m),
        firsts-few (map (interned_at m) (plain.tags m)) [],
        length-map (plain.tags m) (interned_at m),
        imported_few tag_import (plain.imports m),
        length-append (imported_of tag_import m) (flat_map tags_of_section m),
        sections_few m 8 0 read.spelled.body read.spelled.are_sections,
        total_members (plain.types m),
        ap length read.spelled.parts,
        length-append header read.spelled.body,
      )

  pub few-types : (startup : Bool) → length (interned_list m startup).types ≤ 2 * length bytes
  few-types false = omega (arith, without)
  few-types true = omega (arith, without, length-append (interned_list m false).types (startup_type ∷ []))
