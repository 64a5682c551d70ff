use Rattle.std.proofs.Common.{◌≡◌, ◌++◌, take}
use Rattle.std.specs.List.{flat_map}
use Rattle.plan_lines.specs.TypeLines.{signature_line}
use Rattle.plan_lines.proofs.type_lines.append_signatures.Given as goal

abbrev pub invariant-loop-signature : goal.invariant-loop-signature
invariant-loop-signature l = l.text ≡ l.initial.text ++ flat_map signature_line (take l.signature-index l.signatures)
