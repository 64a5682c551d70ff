-- The bytes that spell the types of a module.
use Rattle.std.specs.Prelude.{ℕ, zero, suc, List, [], ◌∷◌, length, drop, ◌==◌, Option, Some, None, Result, Ok, Err, if◌then◌else◌}
use Rattle.form_reader.specs.Reading.{Fault}
use Rattle.form_reader.specs.ReadingNumbers.{counted_bytes_at}

abbrev pub after_id : ℕ → Result (List ℕ × List ℕ) Fault → Option (ℕ × List ℕ × List ℕ)
after_id id (Ok x) = Some (id, x.0, x.1)
after_id id (Err fault) = None

-- the id and the contents of the section at the front, and the bytes after it
abbrev pub section_bytes_at : List ℕ → Option (ℕ × List ℕ × List ℕ)
section_bytes_at [] = None
section_bytes_at (id ∷ bytes) = after_id id (counted_bytes_at bytes)

abbrev pub contents_or : ℕ → Option (ℕ × List ℕ × List ℕ) → (List ℕ → List ℕ) → List ℕ
contents_or id None others = []
contents_or id (Some s) others = if s.0 == id then s.1 else others s.2

-- the contents of the first section that has an id, among at most n, or nothing
unfoldable pub contents_of : ℕ → ℕ → List ℕ → List ℕ
contents_of id zero bytes = []
contents_of id (suc n) bytes = contents_or id (section_bytes_at bytes) (contents_of id n)

-- the contents of the type section; each section takes a byte at least
abbrev pub type_bytes : List ℕ → List ℕ
type_bytes wasm = contents_of 1 (length (drop 8 wasm)) (drop 8 wasm)
