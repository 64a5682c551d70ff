-- Inputs that are no modules, and their places, for the worked examples.
use Rattle.std.specs.Prelude.{ℕ, List, [], ◌∷◌, ◌++◌, Option, Some, None}
use Rattle.wasm_spec.specs.Grammar.{header}
use Rattle.refusal_place.specs.declared.kind.SectionKind.TheVariants as kind
use Rattle.refusal_place.specs.declared.place.Fault.TheVariants as fault
use Rattle.refusal_place.specs.declared.place.Place.{Place}

-- in the header, at this byte
abbrev pub in_header : ℕ → Place
in_header byte = record { section = None; section_start = 0; entry = None; byte = byte; fault = fault.Header; decided = None }

-- two memories: one of at least one page, and one whose flags are 16, which no memory type has
abbrev pub memory_contents : List ℕ
memory_contents = 0x02 ∷ 0x00 ∷ 0x01 ∷ 0x10 ∷ 0x01 ∷ []

abbrev pub memory_bytes : List ℕ
memory_bytes = header ++ 0x05 ∷ 0x05 ∷ memory_contents

-- an entry of that section, at this byte
abbrev pub at_memory : (entry byte : ℕ) → Place
at_memory entry byte = record {
  section = Some kind.Memory;
  section_start = 8;
  entry = Some entry;
  byte = byte;
  fault = fault.Entry;
  decided = Some 15;
}

-- a memory section of three bytes, of which one is there
abbrev pub cut_bytes : List ℕ
cut_bytes = header ++ 0x05 ∷ 0x03 ∷ 0x01 ∷ []

-- the end of that input, and the end that the section should have
abbrev pub at_cut : (byte end : ℕ) → Place
at_cut byte end = record {
  section = Some kind.Memory;
  section_start = 8;
  entry = None;
  byte = byte;
  fault = fault.SectionEnd end;
  decided = None;
}

-- a custom section with the name "a" and a byte after it, and a memory section
abbrev pub custom_contents : List ℕ
custom_contents = 0x01 ∷ 0x61 ∷ 0x05 ∷ []

abbrev pub two_sections : List ℕ
two_sections = header ++ 0x00 ∷ 0x03 ∷ (custom_contents ++ 0x05 ∷ 0x03 ∷ 0x01 ∷ 0x00 ∷ 0x01 ∷ [])

-- the rows of both
abbrev pub custom_row : ℕ × ℕ × ℕ × ℕ × Option (List ℕ)
custom_row = (0, 8, 10, 3, Some (0x61 ∷ []))

abbrev pub memory_row : ℕ × ℕ × ℕ × ℕ × Option (List ℕ)
memory_row = (5, 13, 15, 3, None)
