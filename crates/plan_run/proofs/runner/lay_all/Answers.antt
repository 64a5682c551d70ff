use Rattle.std.proofs.Common.{◌∙◌}
use Rattle.plan_run.proofs.runner.lay_all.Goals as goal

pub lay_memories-requires : goal.lay_memories-requires
lay_memories-requires c = record {
  sound = c.in_ok-evaluator.ensures.sound;
  finished = rw c.in_ok-evaluator.ensures.translation c.requires.finished;
  small = rw c.in_ok-evaluator.ensures.translation c.requires.small;
  imports = rw c.in_ok-evaluator.ensures.translation c.requires.memories;
}

pub lay_tables-requires : goal.lay_tables-requires
lay_tables-requires c =
    let same = c.in_ok-memories.ensures.grows.translation ∙ c.in_ok-evaluator.ensures.translation in
    record {
      sound = c.in_ok-memories.ensures.grows.sound;
      finished = rw same c.requires.finished.tables;
      imports = rw same c.requires.tables;
      plain = c.requires.plain_cells;
    }

pub returns-clause-globals_laid : goal.returns-clause-globals_laid
returns-clause-globals_laid c = c.in_ok-tables.ensures.grows.values ∙ c.in_ok-memories.ensures.grows.values ∙ c.in_ok-evaluator.ensures.laid

pub returns-clause-memories_laid : goal.returns-clause-memories_laid
returns-clause-memories_laid c = let made = c.in_ok-evaluator.ensures in rw (made.laid, made.translation, made.types) at c.in_ok-memories.ensures.laid

pub returns-clause-tables_laid : goal.returns-clause-tables_laid
returns-clause-tables_laid c =
    let made = c.in_ok-evaluator.ensures in
    let grows = c.in_ok-memories.ensures.grows in
    rw (grows.values ∙ made.laid, grows.translation ∙ made.translation, grows.types ∙ made.types) at c.in_ok-tables.ensures.laid

pub returns-clause-lent : goal.returns-clause-lent
returns-clause-lent c = let made = c.in_ok-evaluator.ensures in rw (made.laid, made.translation, made.types) at c.in_ok-memories.ensures.lent

pub returns-clause-shared : goal.returns-clause-shared
returns-clause-shared c = rw c.in_ok-evaluator.ensures.translation at c.in_ok-memories.ensures.shared
