use Rattle.std.proofs.Common.{◌≡◌, ◌++◌, take}
use Rattle.plan_lines.specs.Quoted.{quoted_bytes}
use Rattle.plan_lines.proofs.quoted.append_bytes.Given as goal

abbrev pub invariant-loop-byte : goal.invariant-loop-byte
invariant-loop-byte l = l.text ≡ l.initial.text ++ quoted_bytes (take l.byte-index l.bytes)
