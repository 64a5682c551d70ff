use Rattle.std.proofs.Common.{◌≡◌, length, map, drop}
use Rattle.replay_spec.specs.Globals.{kept_written}
use Rattle.init_plan.specs.Held.{kept_global_of}
use Rattle.plan_run.specs.Evaluation.{globals_of, fields_of, EvaluatorIsSound}
use Rattle.plan_run.proofs.evaluation.Evaluator.write_kept.Given as goal

-- with the initialisers that remain, the globals become what they become of all initialisers
abbrev pub invariant-loop-index : goal.invariant-loop-index
invariant-loop-index l = let become = kept_written (fields_of l.fn.self) l.imports in record {
  sound : EvaluatorIsSound l.self;
  translation : l.self.translation ≡ l.fn.self.translation;
  types : l.self.types ≡ l.fn.self.types;
  count : length l.self.globals.items ≡ length l.fn.self.globals.items;
  written : become (globals_of l.self) (map kept_global_of (drop l.index-index l.index-items))
      ≡ become (globals_of l.fn.self) (map kept_global_of l.fn.self.translation.now.global_initializers.items);
}
