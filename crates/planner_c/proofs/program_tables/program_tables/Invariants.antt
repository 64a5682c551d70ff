use Rattle.std.proofs.Common.{◌≡◌, ◌++◌, length, take, drop}
use Rattle.std.specs.List.{AllZip}
use Rattle.planner_c.specs.Members.{IsBetween}
use Rattle.planner_c.specs.Programs.{TellsAnswer, all_answers, all_types, module_rows}
use Rattle.planner_c.proofs.program_tables.program_tables.Given as goal

abbrev pub invariant-loop-place : goal.invariant-loop-place
invariant-loop-place l = record {
  modules : l.modules.items ++ module_rows (length l.types.items) (length l.answers.items) (drop l.place l.linked) ≡ module_rows 0 0 l.linked;
  types : l.types.items ≡ all_types (take l.place l.linked);
  answers : AllZip (TellsAnswer (IsBetween l.linked)) (all_answers (take l.place l.linked)) l.answers.items;
}
