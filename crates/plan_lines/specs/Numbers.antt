-- Lines of numbers, and a line for each item of a list.
use Rattle.std.specs.Prelude.{ℕ, ◌-◌, List, [], ◌∷◌, ◌++◌, codes, decimal}
use Rattle.std.specs.List.{flat_map}
use Rattle.entity_map.specs.Keyed.{keyed}
use Rattle.wasm_index.specs.declared.index.Index.{Index}
use Rattle.wasm_index.specs.Index.{index_of}
use Rattle.wasm_types.specs.Texts.{spaced}

-- a word, and numbers, with a space before each
unfoldable pub numbers_line : List ℕ → List ℕ → List ℕ
numbers_line word numbers = word ++ spaced decimal numbers ++ codes "\n"

-- words, a space and a number
unfoldable pub named_number : List ℕ → ℕ → List ℕ
named_number words number = words ++ codes " " ++ decimal number

-- a line for each item of a list, made of the index and the item
abbrev pub keyed_lines : {Space X : Type 0} → (Index Space → X → List ℕ) → List X → List ℕ
keyed_lines line xs = flat_map (λ p. line p.0 p.1) (keyed index_of xs)

-- how many entities are imported, and how many are defined
abbrev pub counts_line : List ℕ → ℕ → ℕ → List ℕ
counts_line word imported all = numbers_line word (imported ∷ (all - imported) ∷ [])
