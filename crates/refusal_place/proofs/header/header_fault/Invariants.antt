use Rattle.std.proofs.Common.{◌≡◌, ◌≤◌, length, take}
use Rattle.wasm_spec.specs.Grammar.{header}
use Rattle.refusal_place.proofs.header.header_fault.Given as goal

abbrev pub invariant-loop-offset : goal.invariant-loop-offset
invariant-loop-offset l = record { within : l.offset ≤ length l.bytes; same : take l.offset l.bytes ≡ take l.offset header }
