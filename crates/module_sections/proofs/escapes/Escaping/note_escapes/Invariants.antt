use Rattle.std.proofs.Common.{◌≡◌, map, take}
use Rattle.wasm_index.specs.Index.{number_of}
use Rattle.module_sections.specs.EscapeLog.{after_escapes}
use Rattle.module_sections.proofs.escapes.Escaping.note_escapes.Given as goal

-- the functions so far are recorded
abbrev pub invariant-loop-function : goal.invariant-loop-function
invariant-loop-function l = l.self ≡ after_escapes l.initial.self (map number_of (take l.function-index l.functions))
