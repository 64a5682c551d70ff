-- What the tables say of memories, tables, globals and tags.
use Rattle.std.specs.Prelude.{◌≡◌, ℕ, ◌^◌, ◌-◌, map, Option, is_some, unwrap_or}
use Rattle.wasm_types.specs.declared.global.Global.{Global}
use Rattle.wasm_types.specs.declared.memory.Memory.{Memory}
use Rattle.wasm_types.specs.declared.table.Table.{Table}
use Rattle.wasm_types.specs.declared.tag.Tag.{Tag}
use Rattle.wasm_types.specs.Memories.{minimum_bytes}
use Rattle.wasm_types.specs.Sizes.{maximum_bytes}
use Rattle.wasm_module.specs.declared.module.Module.{Module}
use Rattle.plan_lines.specs.TypeLines.{listed_number}
use Rattle.plan_tables.specs.declared.record.KindsRecord.{KindsRecord}
use Rattle.plan_tables.specs.declared.rows.GlobalRow.{GlobalRow}
use Rattle.plan_tables.specs.declared.rows.MemoryRow.{MemoryRow}
use Rattle.plan_tables.specs.declared.rows.TableRow.{TableRow}
use Rattle.plan_tables.specs.declared.rows.TagRow.{TagRow}
use Rattle.plan_tables.specs.Numbers.{at_most_64_bits, bit, wide_bit}
use Rattle.plan_tables.specs.Values.{ref_row, value_row}

-- a greatest size; the greatest number of 64 bits where there is none
abbrev pub greatest : Option ℕ → ℕ
greatest size = unwrap_or size (2 ^ 64 - 1)

abbrev pub memory_row : Memory → MemoryRow
memory_row m = record {
  minimum = m.limits.min;
  maximum = greatest m.limits.max;
  minimum_bytes = at_most_64_bits (minimum_bytes m);
  maximum_bytes = at_most_64_bits (maximum_bytes m);
  page_size_log2 = m.page_size_log2;
  shared = bit m.shared;
  wide = wide_bit m.idx_type;
  bounded = bit (is_some m.limits.max);
}

abbrev pub table_row : Table → TableRow
table_row t = record {
  minimum = t.limits.min;
  maximum = greatest t.limits.max;
  element = ref_row t.ref_type;
  wide = wide_bit t.idx_type;
  bounded = bit (is_some t.limits.max);
}

abbrev pub global_row : Global → GlobalRow
global_row g = record { value = value_row g.wasm_ty; writable = bit g.mutability }

-- by interned types
abbrev pub tag_row : Tag → TagRow
tag_row t = record { signature = listed_number t.signature; exception = listed_number t.exception }

pub record TellsKinds (m : Module) (r : KindsRecord) : Type 0 where
  pub memories : r.memories.now ≡ map memory_row m.memories
  pub tables : r.tables.now ≡ map table_row m.tables
  pub globals : r.globals.now ≡ map global_row m.globals
  pub tags : r.tags.now ≡ map tag_row m.tags
