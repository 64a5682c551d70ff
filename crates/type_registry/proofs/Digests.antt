-- The data that a digest of types reads.
use Rattle.std.proofs.Common.{◌≡◌, ◌++◌, ℕ, List, [], ◌∷◌, ◌+◌, refl, ap}
use Rattle.std.specs.List.{flat_map}
use Rattle.entity_map.specs.Keyed.{keyed, keyed_from}
use Rattle.wasm_index.specs.Index.{index_of}
use Rattle.module_types.specs.Views.{TypeIndex}
use Rattle.wasm_types.specs.declared.sub.WasmSubType.{WasmSubType}
use Rattle.wasm_types.specs.contracts.sub.WasmSubTypeHash.TheImpl as types

abbrev pub taken : WasmSubType → List (List ℕ)
taken = types.ghosts.hash_input

-- of types with their indices
abbrev pub all_taken : List (TypeIndex × WasmSubType) → List (List ℕ)
all_taken es = flat_map (λ (e : TypeIndex × WasmSubType). taken e.1) es

taken-from : (n : ℕ) (ts : List WasmSubType) → all_taken (keyed_from index_of n ts) ≡ flat_map taken ts
taken-from n [] = refl
taken-from n (t ∷ ts) = ap (λ l. taken t ++ l) (taken-from (n + 1) ts)

pub taken-keyed : (ts : List WasmSubType) → all_taken (keyed index_of ts) ≡ flat_map taken ts
taken-keyed ts = taken-from 0 ts
