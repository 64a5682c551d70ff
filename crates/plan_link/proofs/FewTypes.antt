-- A module that is read has fewer than 2 ^ 31 interned types.
use Rattle.std.proofs.Common.{◌≤◌, ◌<◌, ◌+◌, ◌^◌, ℕ, Bool, true, false, List, [], ◌∷◌, length, map, arith, length-append}
use Rattle.std.specs.List.{flat_map}
use Rattle.std.proofs.lemmas.List.{length-map}
use Rattle.wasm_spec.specs.Module.{tag_import, imported_of, tags_of_section}
use Rattle.wasm_spec.specs.Module as plain
use Rattle.type_spec.specs.Interned.{startup_type, taken}
use Rattle.type_spec.proofs.Homes.{size}
use Rattle.form_reader.proofs.Entries.{imported_few, types_few}
use Rattle.form_types.specs.Placed.{placed_groups}
use Rattle.form_types.proofs.Ruled.{size-places}
use Rattle.module_types.proofs.FewTypes.{few as taken-few}
use Rattle.interned_types.proofs.Excepting.{firsts-few}
use Rattle.module_environ.specs.Readable.{IsReadable}
use Rattle.interned_types.specs.Types.{interned_at, interned_list}
use Rattle.plan_link.proofs.Excepted.{listed-long}

-- ---- of a module

module _ (bytes : List ℕ) (m : plain.Module) (read : IsReadable bytes m) where
  pub few-types : (startup : Bool) → length (interned_list m startup).types < 2 ^ 31
  few-types startup =
      let gs = placed_groups m in
      let groups : length (taken gs).built.types ≤ size gs + size gs = taken-few gs (size gs) (omega arith) in
      let tags = firsts-few (map (interned_at m) (plain.tags m)) [] in
      let each = length-map (plain.tags m) (interned_at m) in
      let imported = imported_few tag_import (plain.imports m) in
      let own = length-append (imported_of tag_import m) (flat_map tags_of_section m) in
      let all = types_few bytes m read.spelled in
      let without : length (interned_list m false).types + 1 < 2 ^ 31 =
      omega (arith, listed-long m, groups, size-places (plain.groups m), tags, each, imported, own, all, read.short) in
      by startup without where
        by : (s : Bool) → length (interned_list m false).types + 1 < 2 ^ 31 → length (interned_list m s).types < 2 ^ 31
        by false few = omega (arith, few)
        by true few = omega (arith, few, length-append (interned_list m false).types (startup_type ∷ []))
