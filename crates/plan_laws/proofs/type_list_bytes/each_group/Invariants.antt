use Rattle.std.proofs.Common.{◌≤◌, length}
use Rattle.std.specs.List.{All}
use Rattle.std.specs.declared.ops.Range.{Range}
use Rattle.entity_map.specs.Keyed.{keyed}
use Rattle.wasm_index.specs.declared.index.Index.{Index}
use Rattle.wasm_index.specs.declared.spaces.ModuleInternedRecGroupSpace.{ModuleInternedRecGroupSpace}
use Rattle.wasm_index.specs.Index.{index_of}
use Rattle.module_types.specs.Views.{TypeIndex}
use Rattle.plan_lines.specs.TypeListLines.{group_line}
use Rattle.plan_laws.proofs.type_list_bytes.each_group.Given as goal

abbrev pub invariant-loop-index : goal.invariant-loop-index
invariant-loop-index l = All (λ (p : Index ModuleInternedRecGroupSpace × Range TypeIndex). length (group_line p.0 p.1) ≤ 128) l.index-iterator → All (λ (p : Index ModuleInternedRecGroupSpace × Range TypeIndex). length (group_line p.0 p.1) ≤ 128) (keyed index_of l.types.groups)
