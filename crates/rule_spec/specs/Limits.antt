-- Limits of memories and tables (core specification, 3.2, limits and memory types; pages of one
-- byte are a proposal).
use Rattle.std.specs.Prelude.{◌≡◌, ◌⊎◌, ℕ, ◌*◌, ◌^◌, ◌≤◌, IsTrue, IfSome, IsSome, if◌then◌else◌}
use Rattle.wasm_spec.specs.declared.entities.MemoryType.{MemoryType}
use Rattle.wasm_spec.specs.declared.entities.TableType.{TableType}
use Rattle.wasm_spec.specs.Sizes.{page_log2}

-- the most bytes that the addresses of a memory reach
abbrev pub address_space : MemoryType → ℕ
address_space t = if t.memory64 then 2 ^ 64 else 2 ^ 32

-- a maximum is at least the minimum, a page has one byte or 65536, addresses reach each byte, and a
-- shared memory has a maximum
pub record HasLimits (t : MemoryType) : Type 0 where
  pub ordered : IfSome t.maximum (λ most. t.initial ≤ most)
  pub page_size : IfSome t.page_size_log2 (λ log2. (log2 ≡ 0) ⊎ (log2 ≡ 16))
  pub initial_fits : t.initial * 2 ^ page_log2 t ≤ address_space t
  pub maximum_fits : IfSome t.maximum (λ most. most * 2 ^ page_log2 t ≤ address_space t)
  pub bounded : IsTrue t.shared → IsSome t.maximum

-- a table's maximum is at least its minimum
abbrev pub IsOrdered : TableType → Type 0
IsOrdered t = IfSome t.maximum (λ most. t.initial ≤ most)
