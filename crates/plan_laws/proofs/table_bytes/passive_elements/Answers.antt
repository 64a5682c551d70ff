use Rattle.std.specs.Prelude.{List, All}
use Rattle.std.proofs.Common.{subst, arith}
use Rattle.std.specs.Prelude.{ℕ}
use Rattle.wasm_types.specs.declared.value.WasmRefType.{WasmRefType}
use Rattle.plan_laws.specs.Widths.{PassiveFits}
use Rattle.plan_laws.proofs.ListTexts.{passive-lines-short}
use Rattle.plan_laws.proofs.table_bytes.passive_elements.Goals as goal

pub returns : goal.returns
returns c =
    let P : List (WasmRefType × ℕ) → Type 0 = λ xs. All PassiveFits xs in
    passive-lines-short c.args.elements.now (omega arith) (subst P c.as_slice.ensures c.each_passive.ensures)
