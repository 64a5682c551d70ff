use Rattle.std.specs.Prelude.{List, All}
use Rattle.std.proofs.Common.{subst, arith}
use Rattle.wasm_module.specs.declared.table_initialization.TableInitialValue.{TableInitialValue}
use Rattle.plan_laws.specs.Widths.{InitialFits}
use Rattle.plan_laws.proofs.ListTexts.{initial-lines-short}
use Rattle.plan_laws.proofs.table_bytes.initial_values.Goals as goal

pub returns : goal.returns
returns c =
    let P : List (TableInitialValue) → Type 0 = λ xs. All InitialFits xs in
    initial-lines-short c.args.values.now (omega arith) (subst P c.as_slice.ensures c.each_initial.ensures)
