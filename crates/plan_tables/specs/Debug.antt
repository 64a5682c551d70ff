-- What the tables say of names of locals, and of the locals of functions, for a debugger.
use Rattle.std.specs.Prelude.{◌≡◌, ℕ, List, length, map}
use Rattle.std.specs.Borrow.{Bor}
use Rattle.std.specs.BTreeMap.{BTreeMap}
use Rattle.std.specs.List.{flat_map}
use Rattle.wasm_index.specs.declared.index.Index.{Index}
use Rattle.wasm_index.specs.declared.spaces.FuncSpace.{FuncSpace}
use Rattle.wasm_index.specs.Index.{number_of}
use Rattle.wasm_types.specs.declared.value.WasmValType.{WasmValType}
use Rattle.init_plan.specs.declared.debug_info.DebugInfoData.{DebugInfoData}
use Rattle.plan_tables.specs.declared.record.DebugRecord.{DebugRecord}
use Rattle.plan_tables.specs.declared.record.LocalNameRow.{LocalNameRow}
use Rattle.plan_tables.specs.declared.rows.LocalsRow.{LocalsRow}
use Rattle.plan_tables.specs.Spans.{spans_from}
use Rattle.plan_tables.specs.Values.{value_row}

-- a function, a local of it, and its name
abbrev pub local_name_told : LocalNameRow → ℕ × ℕ × List ℕ
local_name_told row = (row.function, row.local, row.name.now)

-- the name of a local of a function
abbrev pub local_name : Index FuncSpace → ℕ × Bor (List ℕ) → ℕ × ℕ × List ℕ
local_name function name = (number_of function, name.0, name.1.now)

-- the names of a function's locals
abbrev pub local_names : Index FuncSpace × BTreeMap ℕ (Bor (List ℕ)) → List (ℕ × ℕ × List ℕ)
local_names entry = map (local_name entry.0) entry.1.entries

-- how many locals of a type
abbrev pub metadata_run : ℕ × WasmValType → LocalsRow
metadata_run run = record { count = run.0; value = value_row run.1 }

pub record TellsDebug (info : DebugInfoData) (r : DebugRecord) : Type 0 where
  -- how many functions are imported
  pub imports : r.imports ≡ info.wasm_file.imported_func_count
  -- the name of each local that has one
  pub names : map local_name_told r.names.now ≡ flat_map local_names info.name_section.locals_names.entries
  -- which of the locals each defined function has
  pub functions : r.functions.now ≡ spans_from 0 (map (λ f. length f.locals.items) info.wasm_file.funcs.items)
  pub locals : r.locals.now ≡ flat_map (λ f. map metadata_run f.locals.items) info.wasm_file.funcs.items
