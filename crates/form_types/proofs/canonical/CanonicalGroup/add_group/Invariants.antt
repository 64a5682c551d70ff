use Rattle.std.proofs.Common.{map, take}
use Rattle.wasm_spec.specs.TypeData.{group_edges}
use Rattle.form_reader.specs.Views.{sub_type_of}
use Rattle.form_types.specs.Codes.{group_codes}
use Rattle.form_types.specs.Keys.{AddsToKey}
use Rattle.form_types.proofs.canonical.CanonicalGroup.add_group.Given as goal

abbrev pub invariant-loop-ty : goal.invariant-loop-ty
invariant-loop-ty l =
    AddsToKey l.fn.self l.self (group_codes (map sub_type_of (take l.ty-index l.types)))
    (group_edges (λ i. i) (map sub_type_of (take l.ty-index l.types)))
