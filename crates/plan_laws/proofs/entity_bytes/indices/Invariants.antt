use Rattle.std.proofs.Common.{ℕ, ◌<◌, ◌^◌, get_or}
use Rattle.wasm_types.specs.declared.index.EngineOrModuleTypeIndex.{EngineOrModuleTypeIndex}
use Rattle.plan_lines.specs.TypeLines.{listed_number}
use Rattle.plan_laws.proofs.entity_bytes.indices.Given as goal

abbrev pub invariant-loop-i : goal.invariant-loop-i
invariant-loop-i l = (k : ℕ) (d : EngineOrModuleTypeIndex) → k < l.i-index → listed_number (get_or l.indices k d) < 2 ^ 32
