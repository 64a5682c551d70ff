-- What the calls that place a memory are asked of.
use Rattle.std.specs.Prelude.{◌≡◌}
use Rattle.wasm_types.specs.declared.memory.Memory.{Memory}
use Rattle.wasm_types.specs.Sizes.{HasFormatPages}
use Rattle.plan_tables.specs.declared.rows.MemoryRow.{MemoryRow}
use Rattle.plan_tables.specs.Kinds.{memory_row}

-- the row of this memory
pub record IsRowOf (m : Memory) (r : MemoryRow) : Type 0 where
  pub pages : HasFormatPages m
  pub is : r ≡ memory_row m
