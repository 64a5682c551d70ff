-- Sections of small modules, for the worked examples.
use Rattle.std.specs.Prelude.{ℕ, List, [], ◌∷◌, codes}
use Rattle.wasm_spec.specs.declared.entities.TypeRef.TheVariants as imported
use Rattle.wasm_spec.specs.Module as plain

-- the import of a function
abbrev pub one_import : plain.Payload
one_import = plain.Imports (record { space = codes "m"; name = codes "f"; type = imported.Func 0 } ∷ [])

-- a name section in which function 0 has the name of one letter
abbrev pub named : ℕ → plain.Payload
named letter = plain.Custom (codes "name") (0x01 ∷ 0x04 ∷ 0x01 ∷ 0x00 ∷ 0x01 ∷ letter ∷ [])

-- a section of hints
abbrev pub hinted : List ℕ → plain.Payload
hinted contents = plain.Custom (codes "metadata.code.branch_hint") contents
