use Rattle.std.specs.Prelude.{List, All, length, ◌≤◌}
use Rattle.std.proofs.Common.{subst}
use Rattle.wasm_convert.specs.declared.operators.ConstOp.{ConstOp}
use Rattle.plan_lines.specs.Expressions.{operator_text}
use Rattle.plan_laws.proofs.OperatorTexts.{expression-short}
use Rattle.plan_laws.proofs.operator_bytes.expression.Goals as goal

pub returns : goal.returns
returns c =
    let P : List ConstOp → Type 0 = λ ops. All (λ op. length (operator_text op) ≤ 45) ops in
    record { short = expression-short c.args.expression.now (subst P c.ops.ensures.listed c.operators.ensures) }
