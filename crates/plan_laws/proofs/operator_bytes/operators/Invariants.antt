use Rattle.std.proofs.Common.{ℕ, ◌<◌, ◌≤◌, length, get_or}
use Rattle.wasm_convert.specs.declared.operators.ConstOp.{ConstOp}
use Rattle.plan_lines.specs.Expressions.{operator_text}
use Rattle.plan_laws.proofs.operator_bytes.operators.Given as goal

abbrev pub invariant-loop-each : goal.invariant-loop-each
invariant-loop-each l = (k : ℕ) (d : ConstOp) → k < l.each-index → length (operator_text (get_or l.operators k d)) ≤ 45
