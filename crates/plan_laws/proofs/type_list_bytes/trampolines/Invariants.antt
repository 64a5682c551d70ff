use Rattle.std.proofs.Common.{◌<◌, ◌^◌}
use Rattle.std.specs.List.{All}
use Rattle.wasm_index.specs.Index.{number_of}
use Rattle.module_types.specs.TypeList.{called_from}
use Rattle.module_types.specs.Views.{TypeIndex}
use Rattle.plan_laws.proofs.type_list_bytes.trampolines.Given as goal

abbrev pub invariant-loop-trampoline : goal.invariant-loop-trampoline
invariant-loop-trampoline l = All (λ (p : TypeIndex × TypeIndex). number_of p.1 < 2 ^ 32) l.trampoline-iterator → All (λ (p : TypeIndex × TypeIndex). number_of p.1 < 2 ^ 32) (called_from 0 l.types.trampolines)
