-- What a module lists has a byte of its own in what spells it.
use Rattle.std.proofs.Common.{ℕ, ◌+◌, ◌*◌, ◌≤◌, List, length, sum_by, arith}
use Rattle.std.proofs.lemmas.List.Sums.{sum_by-le-sum_by}
use Rattle.std.specs.List.{flat_map}
use Rattle.wasm_spec.specs.Module.{Element, ElementItems, Functions, Expressions, Module, types, imports, segments, tables_of_section, globals_of_section, exports_of_section, elements_of_section}
use Rattle.wasm_spec.specs.Grammar.{Spells}
use Rattle.plan_laws.proofs.SpelledSections.{module-weighs}
use Rattle.plan_laws.proofs.ModuleContents.{functions_of_items, count_of_items, member_parts, import_name_bytes, export_name_bytes, cell_operators, first_operators, element_operators, element_items, element_functions, item_operators, segment_operators, segment_bytes, custom_bytes, listed}

-- each of the sums is no more than the bytes
pub record SpelledSums (bytes : List ℕ) (m : Module) : Type 0 where
  pub type_parts : sum_by member_parts (types m) ≤ length bytes
  pub import_names : sum_by import_name_bytes (imports m) ≤ length bytes
  pub export_names : sum_by export_name_bytes (flat_map exports_of_section m) ≤ length bytes
  pub global_operators : sum_by first_operators (flat_map globals_of_section m) ≤ length bytes
  pub table_operators : sum_by cell_operators (flat_map tables_of_section m) ≤ length bytes
  pub element_offsets : sum_by element_operators (flat_map elements_of_section m) ≤ length bytes
  pub items : sum_by element_items (flat_map elements_of_section m) ≤ length bytes
  pub function_items : sum_by element_functions (flat_map elements_of_section m) ≤ length bytes
  pub expression_operators : sum_by item_operators (flat_map elements_of_section m) ≤ length bytes
  pub data_offsets : sum_by segment_operators (segments m) ≤ length bytes
  pub data_bytes : sum_by segment_bytes (segments m) ≤ length bytes
  pub customs : sum_by custom_bytes m ≤ length bytes
  -- and so are all of them together with the entries, the 8 bytes of the header, and two of each
  -- section: its id, and a byte of its size
  pub all : 8 + 2 * length m + listed m ≤ length bytes

-- of the items of element segments, the functions
few-functions : (e : Element) → element_functions e ≤ element_items e
few-functions e = by e.items where
  by : (items : ElementItems) → functions_of_items items ≤ count_of_items items
  by (Functions indices) = omega arith
  by (Expressions type items) = omega arith

pub spelled-sums : {bytes : List ℕ} {m : Module} → Spells bytes m → SpelledSums bytes m
spelled-sums {m = m} s =
    let all = module-weighs s in
    record {
      type_parts = omega (arith, all);
      import_names = omega (arith, all);
      export_names = omega (arith, all);
      global_operators = omega (arith, all);
      table_operators = omega (arith, all);
      element_offsets = omega (arith, all);
      items = omega (arith, all);
      function_items = omega (arith, all, sum_by-le-sum_by element_functions element_items (flat_map elements_of_section m) few-functions);
      expression_operators = omega (arith, all);
      data_offsets = omega (arith, all);
      data_bytes = omega (arith, all);
      customs = omega (arith, all);
      all = omega (arith, all);
    }
