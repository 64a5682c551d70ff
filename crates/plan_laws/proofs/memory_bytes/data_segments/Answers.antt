use Rattle.std.specs.Prelude.{List, All, length, sum_by, ◌≤◌, ◌+◌, ◌*◌}
use Rattle.std.proofs.Common.{subst, sym}
use Rattle.wasm_index.specs.declared.index.Index.{Index}
use Rattle.wasm_index.specs.declared.spaces.MemorySpace.{MemorySpace}
use Rattle.wasm_index.specs.declared.spaces.RuntimeDataSpace.{RuntimeDataSpace}
use Rattle.init_plan.specs.declared.translation.MemoryInit.{MemoryInit}
use Rattle.init_plan.specs.declared.translation.MemorySegmentOffset.{MemorySegmentOffset}
use Rattle.plan_lines.specs.SegmentLines.{segment_lines}
use Rattle.plan_laws.specs.TextCosts.{place_operators, segments_in}
use Rattle.plan_laws.specs.Widths.{SegmentFits}
use Rattle.plan_laws.proofs.ListTexts.{segment-lines-short}
use Rattle.plan_laws.proofs.memory_bytes.data_segments.Goals as goal

abbrev Segment : Type 0
Segment = Index MemorySpace × MemorySegmentOffset × Index RuntimeDataSpace

pub returns-in-Processed : goal.returns-in-Processed
returns-in-Processed c =
    let P : MemoryInit → Type 0 = λ m. length (segment_lines m) ≤ 128 * length (segments_in m) + 48 * sum_by (λ (s : Segment). place_operators s.1) (segments_in m) in
    let Q : List Segment → Type 0 = λ ss. All SegmentFits ss in
    subst P (sym c.in-Processed.is) (segment-lines-short c.in-Processed.segments.items (subst Q c.as_slice.ensures.value c.each_segment.ensures))
