use Rattle.std.proofs.Common.{append_assoc}
use Rattle.std.proofs.lemmas.List.{take_rest}
use Rattle.plan_lines.proofs.Spaced.{spaced_split}
use Rattle.plan_lines.proofs.value_words.append_values.Goals as goal

-- the first few types, and the others
pub returns : goal.returns
returns c =
    let types = c.args.types.now in
    let count = c.in_ok-count.count in
    rw (c.in_ok-count.ensures.1, append_assoc, take_rest types count, spaced_split count types) at c.append_each.ensures
