use Rattle.std.proofs.Common.{◌≡◌, ◌++◌, length, map, take, drop}
use Rattle.std.specs.List.{flat_map}
use Rattle.plan_tables.specs.Debug.{metadata_run}
use Rattle.plan_tables.specs.Spans.{spans_from}
use Rattle.plan_tables.proofs.debug.metadata_of.Given as goal

abbrev pub invariant-loop-function : goal.invariant-loop-function
invariant-loop-function l = record {
  parts : l.parts.items ++ spans_from (length l.locals.items) (map (λ f. length f.locals.items) (drop l.function-index l.functions))
      ≡ spans_from 0 (map (λ f. length f.locals.items) l.functions);
  locals : l.locals.items ≡ flat_map (λ f. map metadata_run f.locals.items) (take l.function-index l.functions);
}
