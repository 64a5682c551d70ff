use Rattle.std.proofs.Common.{◌≡◌, ℕ, sum_by, take}
use Rattle.wasm_spec.specs.declared.types.ValType.{ValType}
use Rattle.rule_breaks.proofs.faults_entries.count_locals.Given as goal

-- the runs so far are counted
abbrev pub invariant-loop-run : goal.invariant-loop-run
invariant-loop-run l = l.count ≡ sum_by (λ (run : ℕ × ValType). run.0) (take l.run-index l.body.locals.items)
