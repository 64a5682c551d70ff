-- Initialisers of globals, one by one.
use Rattle.std.specs.Prelude.{ℕ, take}
use Rattle.wasm_spec.specs.TypeData.{value_of}
use Rattle.wasm_spec.specs.Module.{GlobalDef}
use Rattle.rule_spec.specs.Lists.{Lists}
use Rattle.rule_spec.specs.Typing.{HasClass, class_of}

-- the initialiser of the global that has this index sees the globals of lower index (core
-- specification, 3.5, globals)
abbrev pub IsGlobalTyped : Lists → ℕ → GlobalDef → Type 0
IsGlobalTyped l index g = HasClass l (take index l.global_types) g.init (class_of (value_of g.type.content_type))
