use Rattle.std.specs.Prelude.{length, ◌≤◌}
use Rattle.std.proofs.Common.{subst}
use Rattle.wasm_types.specs.declared.index.EngineOrModuleTypeIndex.{EngineOrModuleTypeIndex}
use Rattle.wasm_types.specs.Texts.{index_text}
use Rattle.plan_laws.proofs.TypeTexts.{cont-short}
use Rattle.plan_laws.proofs.type_bytes.continuation.Goals as goal

pub returns : goal.returns
returns c =
    let Q : EngineOrModuleTypeIndex → Type 0 = λ i. length (index_text i) ≤ 21 in
    cont-short c.args.ty.now (subst Q c.index.ensures c.index-2.ensures.text)
