use Rattle.std.proofs.Common.{◌≡◌, ◌++◌}
use Rattle.std.specs.List.{flat_map}
use Rattle.entity_map.specs.Keyed.{keyed}
use Rattle.wasm_index.specs.Index.{number_of, index_of}
use Rattle.init_plan.specs.Views.{hints_of}
use Rattle.plan_tables.specs.Functions.{branch_hint_rows}
use Rattle.plan_tables.proofs.functions.branch_hints_of.Given as goal

abbrev pub invariant-loop-function : goal.invariant-loop-function
invariant-loop-function l = l.rows.items ++ flat_map (λ p. branch_hint_rows p.0 (hints_of l.translation (number_of p.0))) l.function-iterator
    ≡ flat_map (λ p. branch_hint_rows p.0 (hints_of l.translation (number_of p.0))) (keyed index_of l.translation.module.functions)
