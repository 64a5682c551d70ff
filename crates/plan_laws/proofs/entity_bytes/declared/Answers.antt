use Rattle.std.specs.Prelude.{List, All, ◌<◌, ◌^◌}
use Rattle.std.proofs.Common.{subst, arith}
use Rattle.wasm_types.specs.declared.index.EngineOrModuleTypeIndex.{EngineOrModuleTypeIndex}
use Rattle.plan_lines.specs.TypeLines.{listed_number}
use Rattle.plan_laws.proofs.ListTexts.{declared-lines-short}
use Rattle.plan_laws.proofs.entity_bytes.declared.Goals as goal

pub returns : goal.returns
returns c =
    let P : List (EngineOrModuleTypeIndex) → Type 0 = λ xs. All (λ i. listed_number i < 2 ^ 32) xs in
    declared-lines-short c.args.types.now (omega arith) (subst P c.as_slice.ensures c.indices.ensures)
