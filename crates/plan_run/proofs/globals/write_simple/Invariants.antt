use Rattle.std.proofs.Common.{◌≡◌, ℕ, List, length, map, drop}
use Rattle.std.specs.Prelude.{All}
use Rattle.replay_spec.specs.Globals.{simple_written}
use Rattle.replay_spec.specs.Values.{Term}
use Rattle.init_plan.specs.Held.{simple_global_of}
use Rattle.plan_run.specs.Values.{values_in, NamesBelow}
use Rattle.plan_run.proofs.globals.write_simple.Given as goal

-- with the values that remain, the globals become what they become of all values
abbrev pub invariant-loop-index : goal.invariant-loop-index
invariant-loop-index l = record {
  count : length l.globals.items ≡ length l.fn.globals.items;
  written : (terms : List Term) → simple_written l.imports (values_in terms l.globals.items) (map simple_global_of (drop l.index-index l.values))
      ≡ simple_written l.imports (values_in terms l.fn.globals.items) (map simple_global_of l.values);
  below : (k : ℕ) → All (NamesBelow k) l.fn.globals.items → All (NamesBelow k) l.globals.items;
}
