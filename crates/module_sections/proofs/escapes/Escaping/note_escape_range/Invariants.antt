use Rattle.std.proofs.Common.{◌≡◌}
use Rattle.std.specs.List.{range_with_len}
use Rattle.module_sections.specs.EscapeLog.{after_escapes}
use Rattle.module_sections.proofs.escapes.Escaping.note_escape_range.Given as goal

-- the functions so far are recorded
abbrev pub invariant-loop-offset : goal.invariant-loop-offset
invariant-loop-offset l = l.self ≡ after_escapes l.initial.self (range_with_len l.start l.offset)
