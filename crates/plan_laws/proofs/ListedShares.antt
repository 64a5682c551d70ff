-- The bytes of a module, shared among its entries, what stands in these, and its names.
use Rattle.std.proofs.Common.{◌≤◌, ◌+◌, ℕ, List, length, sum_by, arith}
use Rattle.std.specs.List.{flat_map}
use Rattle.wasm_spec.specs.Grammar.{Spells}
use Rattle.wasm_spec.specs.Module.{Module, types, imports, function_types_of_section, tables_of_section, memories_of_section, tags_of_section, globals_of_section, exports_of_section, elements_of_section, segments_of_section}
use Rattle.plan_laws.proofs.ModuleContents.{member_parts, import_name_bytes, export_name_bytes, cell_operators, first_operators, element_operators, segment_operators, custom_bytes}
use Rattle.plan_laws.proofs.SpelledSums.{spelled-sums}

-- the entries of all lists
unfoldable pub entries_in : Module → ℕ
entries_in m =
    length (types m) + length (imports m) + length (flat_map function_types_of_section m) + length (flat_map tables_of_section m)
    + length (flat_map memories_of_section m) + length (flat_map tags_of_section m) + length (flat_map globals_of_section m)
    + length (flat_map exports_of_section m) + length (flat_map elements_of_section m) + length (flat_map segments_of_section m)

-- parts of types, and operators of expressions
unfoldable pub parts_within : Module → ℕ
parts_within m =
    sum_by member_parts (types m) + sum_by first_operators (flat_map globals_of_section m) + sum_by cell_operators (flat_map tables_of_section m)
    + sum_by element_operators (flat_map elements_of_section m) + sum_by segment_operators (flat_map segments_of_section m)

-- bytes of names of imports and exports, and of custom sections
unfoldable pub names_within : Module → ℕ
names_within m = sum_by import_name_bytes (imports m) + sum_by export_name_bytes (flat_map exports_of_section m) + sum_by custom_bytes m

-- each has bytes of its own, and so has the header
pub shares : {bytes : List ℕ} {m : Module} → Spells bytes m → 8 + entries_in m + parts_within m + names_within m ≤ length bytes
unfolding entries_in parts_within names_within
shares s = omega (arith, (spelled-sums s).all)
