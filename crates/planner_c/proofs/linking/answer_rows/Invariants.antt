use Rattle.std.proofs.Common.{◌≡◌, map, take}
use Rattle.planner_c.specs.Links.{answer_told, answer_row}
use Rattle.planner_c.proofs.linking.answer_rows.Given as goal

abbrev pub invariant-loop-answer : goal.invariant-loop-answer
invariant-loop-answer l = map answer_told l.rows.items ≡ map answer_row (take l.answer-index l.answers)
