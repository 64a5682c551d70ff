-- What the tables say of names of functions, hints of branches, and passive elements.
use Rattle.std.specs.Prelude.{◌≡◌, ℕ, List, [], ◌∷◌, length, map, Option, Some, None}
use Rattle.std.specs.List.{flat_map}
use Rattle.entity_map.specs.Keyed.{keyed}
use Rattle.wasm_index.specs.declared.index.Index.{Index}
use Rattle.wasm_index.specs.declared.spaces.ElemSpace.{ElemSpace}
use Rattle.wasm_index.specs.declared.spaces.FuncSpace.{FuncSpace}
use Rattle.wasm_index.specs.declared.spaces.PassiveElemSpace.{PassiveElemSpace}
use Rattle.wasm_index.specs.Index.{number_of, index_of}
use Rattle.wasm_types.specs.declared.value.WasmRefType.{WasmRefType}
use Rattle.init_plan.specs.declared.debug_info.BranchHint.{BranchHint}
use Rattle.init_plan.specs.declared.translation.ModuleTranslation.{ModuleTranslation}
use Rattle.init_plan.specs.Views.{hints_of}
use Rattle.plan_tables.specs.declared.record.FunctionNameRow.{FunctionNameRow}
use Rattle.plan_tables.specs.declared.record.FunctionsRecord.{FunctionsRecord}
use Rattle.plan_tables.specs.declared.rows.BranchHintRow.{BranchHintRow}
use Rattle.plan_tables.specs.declared.rows.HintsRow.{HintsRow}
use Rattle.plan_tables.specs.declared.rows.PassiveElementsRow.{PassiveElementsRow}
use Rattle.plan_tables.specs.declared.rows.PassiveSegmentRow.{PassiveSegmentRow}
use Rattle.plan_tables.specs.Numbers.{bit}
use Rattle.plan_tables.specs.Values.{ref_row}

-- a function and its name
abbrev pub name_told : FunctionNameRow → ℕ × List ℕ
name_told row = (row.function, row.name.now)

-- a function that has an entry of hints, and how many it has
abbrev pub hints_row : Index FuncSpace → Option (List BranchHint) → List HintsRow
hints_row function None = []
hints_row function (Some hints) = record { function = number_of function; count = length hints } ∷ []

-- a branch hint of a function
abbrev pub branch_hint_row : Index FuncSpace → BranchHint → BranchHintRow
branch_hint_row function hint = record { function = number_of function; offset = hint.func_offset; taken = bit hint.taken }

abbrev pub branch_hint_rows : Index FuncSpace → Option (List BranchHint) → List BranchHintRow
branch_hint_rows function None = []
branch_hint_rows function (Some hints) = map (branch_hint_row function) hints

-- an element segment that is passive, and its index among those
abbrev pub passive_segment_row : Index ElemSpace → Option (Index PassiveElemSpace) → List PassiveSegmentRow
passive_segment_row segment None = []
passive_segment_row segment (Some index) = record { segment = number_of segment; passive = number_of index } ∷ []

abbrev pub passive_elements_row : WasmRefType × ℕ → PassiveElementsRow
passive_elements_row segment = record { element = ref_row segment.0; count = segment.1 }

pub record TellsFunctions (t : ModuleTranslation) (r : FunctionsRecord) : Type 0 where
  pub passive_elements : r.passive_elements.now ≡ map passive_elements_row t.module.passive_elements
  pub names : map name_told r.names.now ≡ map (λ name. (number_of name.0, name.1.now)) t.debuginfo.name_section.func_names.entries
  -- of the functions that have an entry
  pub hints : r.hints.now ≡ flat_map (λ p. hints_row p.0 (hints_of t (number_of p.0))) (keyed index_of t.module.functions)
  -- each branch hint
  pub branch_hints : r.branch_hints.now ≡ flat_map (λ p. branch_hint_rows p.0 (hints_of t (number_of p.0))) (keyed index_of t.module.functions)
  -- which passive segment `table.init` and `elem.drop` name
  pub passive_segments : r.passive_segments.now ≡ flat_map (λ p. passive_segment_row p.0 p.1) (keyed index_of t.passive_elem_map.items)
