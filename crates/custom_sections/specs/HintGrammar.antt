-- The bytes that spell a section of branch hints (branch hinting, binary format).
use Rattle.std.specs.Prelude.{ℕ, List, Bool, true, false, ◌==◌}
use Rattle.wasm_spec.specs.Parts.{Part, ◌>>=◌, gives, nothing, unsigned, choose, first_byte, vector}
use Rattle.custom_sections.specs.declared.hints.Hint.{Hint}

-- whether the branch is likely to be taken
abbrev pub likelihood : ℕ → Part Bool
likelihood b = choose (b == 0x00) (gives false) (choose (b == 0x01) (gives true) nothing)

-- 01, the number of the bytes after it, and then the likelihood
abbrev pub likely : ℕ → Part Bool
likely b = choose (b == 0x01) (first_byte likelihood) nothing

abbrev pub hint : Part Hint
hint = do
  offset ← unsigned 32
  taken ← first_byte likely
  gives (record { func_offset = offset; taken = taken })

-- a function, and its hints
abbrev pub hint_entry : Part (ℕ × List Hint)
hint_entry = do
  function ← unsigned 32
  hints ← vector hint
  gives (function, hints)

-- the contents of the section
abbrev pub hint_section : Part (List (ℕ × List Hint))
hint_section = vector hint_entry
