-- Bytes at which reading stops, for the worked examples.
use Rattle.std.specs.Prelude.{ℕ, List, [], ◌∷◌, ◌++◌}
use Rattle.wasm_spec.specs.Grammar.{header, magic}

-- a global of class i32 whose initialiser is `i32.const 0` and `i32.eqz`, which no constant
-- expression of the listed operators has
abbrev pub unlisted_operator_bytes : List ℕ
unlisted_operator_bytes = header ++ 0x06 ∷ 0x07 ∷ 0x01 ∷ 0x7F ∷ 0x00 ∷ 0x41 ∷ 0x00 ∷ 0x45 ∷ 0x0B ∷ []

-- the header of a component, and nothing after it
abbrev pub component_bytes : List ℕ
component_bytes = magic ++ 0x0D ∷ 0x00 ∷ 0x01 ∷ 0x00 ∷ []
