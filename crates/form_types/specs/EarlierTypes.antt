-- The types before a group.
use Rattle.std.specs.Prelude.{ℕ, List, map}
use Rattle.wasm_spec.specs.declared.types.CoreTypeId.{CoreTypeId}

-- ids as numbers
abbrev pub ids_of : List CoreTypeId → List ℕ
ids_of ids = map (λ id. id.0) ids
