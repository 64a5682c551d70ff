-- The lines of memories: their images, and runtime data.
use Rattle.std.specs.Prelude.{ℕ, List, [], ◌∷◌, Option, Some, None, codes}
use Rattle.std.specs.declared.ops.Range.{Range}
use Rattle.wasm_index.specs.declared.index.Index.{Index}
use Rattle.wasm_index.specs.declared.spaces.DataSpace.{DataSpace}
use Rattle.wasm_index.specs.declared.spaces.MemorySpace.{MemorySpace}
use Rattle.wasm_index.specs.declared.spaces.RuntimeDataSpace.{RuntimeDataSpace}
use Rattle.wasm_index.specs.Index.{number_of}
use Rattle.plan_lines.specs.Numbers.{numbers_line}

-- the alignment of images, where there is one
abbrev pub alignment_lines : Option ℕ → List ℕ
alignment_lines None = []
alignment_lines (Some align) = numbers_line (codes "data-align") (align ∷ [])

-- the image of a memory that has one: its offset in the memory, and its runtime data
abbrev pub image_lines : Index MemorySpace → Option (ℕ × Index RuntimeDataSpace) → List ℕ
image_lines memory None = []
image_lines memory (Some image) = numbers_line (codes "image") (number_of memory ∷ image.0 ∷ number_of image.1 ∷ [])

-- a passive data segment and its runtime data; other data segments have no line
abbrev pub passive_lines : Index DataSpace → Option (Index RuntimeDataSpace) → List ℕ
passive_lines segment None = []
passive_lines segment (Some index) = numbers_line (codes "passive-data") (number_of segment ∷ number_of index ∷ [])

-- the range of one byte string of the runtime data
abbrev pub runtime_line : Index RuntimeDataSpace → Range ℕ → List ℕ
runtime_line index range = numbers_line (codes "runtime") (number_of index ∷ range.start ∷ range.end ∷ [])
