use Rattle.std.proofs.Common.{◌≡◌, map, take}
use Rattle.wasm_index.specs.Index.{number_of}
use Rattle.module_sections.proofs.Typed.{interned_type}
use Rattle.module_sections.proofs.functions.escaping_types.Given as goal

-- the types so far
abbrev pub invariant-loop-function : goal.invariant-loop-function
invariant-loop-function l = map number_of l.signatures.items ≡ map (interned_type l.declared l.functions) (take l.function-index l.function-items)
