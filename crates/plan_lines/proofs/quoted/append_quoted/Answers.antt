use Rattle.std.proofs.Common.{append_assoc}
use Rattle.plan_lines.proofs.Plain.{plain_bytes}
use Rattle.plan_lines.proofs.quoted.append_quoted.Goals as goal

-- plain bytes are quoted as they are
pub returns-then-are_plain : goal.returns-then-are_plain
returns-then-are_plain c =
    let plain = rw c.as_bytes.ensures.value at (c.are_plain.ensures.0 c.if-are_plain.true) in
    let appended = simp append_assoc at c.append_plain.ensures in
    rw (plain_bytes c.args.words.now plain) appended
