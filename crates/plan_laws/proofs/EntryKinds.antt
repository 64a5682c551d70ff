-- The entries of a list are of different kinds: together these are no more than the entries.
use Rattle.std.proofs.Common.{◌≤◌, ◌+◌, ℕ, List, length, map, Option, arith}
use Rattle.std.specs.List.{filter_map}
use Rattle.std.proofs.lemmas.List.{length-map}
use Rattle.wasm_spec.specs.declared.entities.TypeRef.{TypeRef}
use Rattle.wasm_spec.specs.Module.{Import, function_import, memory_import, tag_import, Segment}
use Rattle.replay_spec.specs.Data.{ActiveSegment, active_of_kind}
use Rattle.replay_spec.specs.Held.{held_segment}
use Rattle.module_sections.specs.Initialisers.{passive_data_from}
use Rattle.translate.proofs.EntryCounts as counts

abbrev of : {A : Type 0} → (TypeRef → Option A) → List Import → ℕ
of kind is = length (filter_map (λ i. kind i.type) is)

-- an import is of one kind
pub kinds-few : (is : List Import) → of function_import is + of memory_import is + of tag_import is ≤ length is
kinds-few is = let all = counts.kinds-few is in omega (arith, all)

-- a data segment is active or passive
pub segments-few : (n : ℕ) (ss : List Segment)
    → length (filter_map (λ s. active_of_kind s.kind s.bytes) ss) + length (passive_data_from n ss) ≤ length ss
segments-few n ss =
    let active = filter_map (λ (s : Segment). active_of_kind s.kind s.bytes) ss in
    let bytes = length-map (map held_segment active) (λ (s : ActiveSegment). s.bytes) in
    let held = length-map active held_segment in
    let passive = length-map (passive_data_from n ss) (λ (p : ℕ × List ℕ). p.1) in
    omega (arith, counts.segments-few n ss, bytes, held, passive)
