-- Types but for what their references name.
use Rattle.wasm_spec.specs.declared.types.UnpackedIndex.{UnpackedIndex}
use Rattle.wasm_spec.specs.declared.types.UnpackedIndex.TheVariants.{Module}
use Rattle.wasm_spec.specs.TypeData.{Composite, map_composite}

-- the kind of a type, in which each reference has the same name
abbrev pub unnamed : Composite UnpackedIndex UnpackedIndex → Composite UnpackedIndex UnpackedIndex
unnamed kind = map_composite (λ index. Module 0) (λ index. Module 0) kind
