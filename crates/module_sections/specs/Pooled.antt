-- The pool of a record: the texts of its names, each once.
use Rattle.std.specs.Prelude.{◌<◌, ℕ, List, length}
use Rattle.std.specs.List.{fold}
use Rattle.entity_map.specs.Pool.{atom_number, with_text}
use Rattle.entity_map.specs.declared.pool.Atom.{Atom}
use Rattle.wasm_module.specs.declared.initializer.Initializer.{Initializer}
use Rattle.wasm_module.specs.declared.initializer.Initializer.TheVariants as initializer

-- a pool after some texts are added, in order
abbrev pub with_texts : List (List ℕ) → List (List ℕ) → List (List ℕ)
with_texts texts more = fold with_text texts more

-- a text is at the atom
abbrev pub HasText : List (List ℕ) → Atom → Type 0
HasText texts atom = atom_number atom < length texts

-- both names of an import are in the pool
abbrev pub HasTexts : List (List ℕ) → Initializer → Type 0
HasTexts texts (initializer.Import name field index) = HasText texts name × HasText texts field
