use Rattle.std.specs.Prelude.{List, All, ◌<◌, ◌^◌}
use Rattle.std.proofs.Common.{subst, arith}
use Rattle.wasm_module.specs.declared.function.FunctionType.{FunctionType}
use Rattle.wasm_index.specs.Index.{number_of}
use Rattle.plan_laws.proofs.ListTexts.{escape-lines-short}
use Rattle.plan_laws.proofs.entity_bytes.escapes.Goals as goal

pub returns : goal.returns
returns c =
    let P : List (FunctionType) → Type 0 = λ xs. All (λ f. number_of f.func_ref < 2 ^ 32) xs in
    escape-lines-short c.args.functions.now (omega arith) (subst P c.as_slice.ensures c.each_function.ensures)
