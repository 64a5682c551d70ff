use Rattle.std.proofs.Common.{take}
use Rattle.std.specs.List.{All}
use Rattle.wasm_index.specs.declared.index.Index.{Index}
use Rattle.wasm_index.specs.declared.spaces.DefinedGlobalSpace.{DefinedGlobalSpace}
use Rattle.wasm_convert.specs.declared.values.GlobalConstValue.{GlobalConstValue}
use Rattle.plan_laws.specs.Kept.{IsSized}
use Rattle.plan_laws.proofs.kept.keep_sizes.Given as goal

-- those so far are
abbrev pub invariant-loop-value : goal.invariant-loop-value
invariant-loop-value l = All (λ (g : Index DefinedGlobalSpace × GlobalConstValue). IsSized g.1) (take l.value-index l.values)
