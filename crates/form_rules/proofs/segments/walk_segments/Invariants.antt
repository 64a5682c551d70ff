use Rattle.std.proofs.Common.{◌≡◌, ◌↔◌, ◌+◌, length, All, IsTrue}
use Rattle.wasm_spec.specs.Module.{segments_of_section, Segment}
use Rattle.form_reader.specs.Views.{segment_of}
use Rattle.rule_spec.specs.Expressions.{HasMemoryOffset}
use Rattle.rule_spec.specs.Indices.{NamesMemory}
use Rattle.rule_spec.specs.References.{DataKindRefersIn}
use Rattle.form_reader.specs.SectionRows.{data_segment}
use Rattle.form_rules.specs.Walk.{walk_left}
use Rattle.form_rules.specs.Views.{lists_of}
use Rattle.form_rules.proofs.segments.walk_segments.Given as goal

-- all hold exactly where those checked so far and the remaining ones do
abbrev pub invariant-loop-segments : goal.invariant-loop-segments
invariant-loop-segments l =
    let ls = lists_of l.typing.lists.now in
    let left = walk_left data_segment.read segment_of segments_of_section l.segments in
    record {
      count : l.kept.count + length left ≡ length ls.segments;
      typed : (IsTrue l.kept.typed × All (λ (s : Segment). HasMemoryOffset ls s.kind) left) ↔ All (λ (s : Segment). HasMemoryOffset ls s.kind) ls.segments;
      in_range : (IsTrue l.kept.in_range × All (λ (s : Segment). NamesMemory ls s.kind) left) ↔ All (λ (s : Segment). NamesMemory ls s.kind) ls.segments;
      refer : (IsTrue l.kept.refer × All (λ (s : Segment). DataKindRefersIn (length ls.types) s.kind) left) ↔ All (λ (s : Segment). DataKindRefersIn (length ls.types) s.kind) ls.segments;
    }

abbrev pub decreases-loop-segments : goal.decreases-loop-segments
decreases-loop-segments l = length (walk_left data_segment.read segment_of segments_of_section l.segments)
