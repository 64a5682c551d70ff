-- The lines of interned types, and of the types of the type section.
use Rattle.std.specs.Prelude.{ℕ, List, [], ◌∷◌, ◌++◌, Option, Some, None, codes, decimal}
use Rattle.wasm_index.specs.declared.index.Index.{Index}
use Rattle.wasm_index.specs.declared.spaces.ModuleInternedTypeSpace.{ModuleInternedTypeSpace}
use Rattle.wasm_index.specs.declared.spaces.TypeSpace.{TypeSpace}
use Rattle.wasm_index.specs.Index.{number_of}
use Rattle.wasm_types.specs.declared.index.EngineOrModuleTypeIndex.{EngineOrModuleTypeIndex}
use Rattle.wasm_types.specs.declared.index.EngineOrModuleTypeIndex.TheVariants.{Engine, Module, RecGroup}
use Rattle.wasm_types.specs.declared.sub.WasmSubType.{WasmSubType}
use Rattle.wasm_types.specs.Texts.{sub_text}
use Rattle.plan_lines.specs.Numbers.{numbers_line, named_number}

-- the trampoline of a type that has one
abbrev pub trampoline_text : Option (Index ModuleInternedTypeSpace) → List ℕ
trampoline_text None = []
trampoline_text (Some trampoline) = named_number (codes " trampoline") (number_of trampoline)

unfoldable pub type_line : Index ModuleInternedTypeSpace → WasmSubType → Option (Index ModuleInternedTypeSpace) → List ℕ
type_line index type trampoline =
    codes "type " ++ decimal (number_of index) ++ codes " " ++ sub_text type ++ trampoline_text trampoline ++ codes "\n"

-- the number of an index, whichever list it indexes
abbrev pub listed_number : EngineOrModuleTypeIndex → ℕ
listed_number (Engine i) = number_of i
listed_number (Module i) = number_of i
listed_number (RecGroup i) = number_of i

-- a type of the type section, and the interned type that it is
abbrev pub declared_line : Index TypeSpace → EngineOrModuleTypeIndex → List ℕ
declared_line index interned = numbers_line (codes "declared") (number_of index ∷ listed_number interned ∷ [])

-- a signature of functions to which references are made
abbrev pub signature_line : Index ModuleInternedTypeSpace → List ℕ
signature_line index = numbers_line (codes "signature") (number_of index ∷ [])
