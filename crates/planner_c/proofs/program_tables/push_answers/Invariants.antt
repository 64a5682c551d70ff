use Rattle.std.proofs.Common.{◌≡◌, ◌+◌, ◌++◌, List, length, take}
use Rattle.std.specs.List.{AllZip}
use Rattle.plan_link.specs.declared.answer.ImportAnswer.{ImportAnswer}
use Rattle.planner_c.specs.Members.{IsBetween}
use Rattle.planner_c.specs.Programs.{TellsAnswer}
use Rattle.planner_c.proofs.program_tables.push_answers.Given as goal

abbrev pub invariant-loop-answer : goal.invariant-loop-answer
invariant-loop-answer l = record {
  long : length l.rows.items ≡ length l.initial.rows.items + l.answer-index;
  told : (before : List ImportAnswer) → AllZip (TellsAnswer (IsBetween l.linked)) before l.initial.rows.items
      → AllZip (TellsAnswer (IsBetween l.linked)) (before ++ take l.answer-index l.answers) l.rows.items;
}
