use Rattle.std.proofs.Common.{◌≤◌, length}
use Rattle.std.specs.List.{All}
use Rattle.entity_map.specs.Keyed.{keyed}
use Rattle.wasm_index.specs.declared.index.Index.{Index}
use Rattle.wasm_index.specs.declared.spaces.FuncSpace.{FuncSpace}
use Rattle.wasm_index.specs.Index.{index_of}
use Rattle.wasm_module.specs.declared.function.FunctionType.{FunctionType}
use Rattle.plan_lines.specs.HintLines.{function_hints}
use Rattle.plan_laws.proofs.entity_bytes.each_hints.Given as goal

abbrev pub invariant-loop-function : goal.invariant-loop-function
invariant-loop-function l = All (λ (p : Index FuncSpace × FunctionType). length (function_hints l.translation p.0 p.1) ≤ 128) l.function-iterator → All (λ (p : Index FuncSpace × FunctionType). length (function_hints l.translation p.0 p.1) ≤ 128) (keyed index_of l.translation.module.functions)
