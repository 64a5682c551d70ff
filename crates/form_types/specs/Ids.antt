-- Ids that are consecutive numbers.
use Rattle.std.specs.Prelude.{ℕ, List, map}
use Rattle.std.specs.List.{range_with_len}
use Rattle.wasm_spec.specs.declared.types.CoreTypeId.{CoreTypeId}

abbrev pub id_of : ℕ → CoreTypeId
id_of n = record { 0 = n }

-- a number of consecutive ids, from a first one on
abbrev pub ids_from : ℕ → ℕ → List CoreTypeId
ids_from first count = map id_of (range_with_len first count)
