use Rattle.std.proofs.Common.{◌++◌, map, take, sym, subst, arith}
use Rattle.std.proofs.lemmas.List.{append-nil, take_all}
use Rattle.form_reader.specs.Views.{segment_of}
use Rattle.segment_tables.specs.DataSegments.{HasSegments}
use Rattle.segment_tables.proofs.Rows.{mapped_more}
use Rattle.segment_tables.proofs.data_segments.push_segments.Goals as goal

pub loop-segment-init : goal.loop-segment-init
loop-segment-init c = λ es ss has. subst (λ xs. HasSegments es xs c.args.out.now.items c.args.rows.now) (sym (append-nil ss)) has

pub loop-segment-preserved : goal.loop-segment-preserved
loop-segment-preserved c = λ es ss has.
    subst (λ xs. HasSegments es xs c.push_segment.new.out.items c.push_segment.new.rows)
    (mapped_more segment_of ss c.args.segments.now c.loop-segment.segment-index c.segment-item.result (grind arith) c.segment-item.is)
    (c.in_ok-push_segment.ensures es (ss ++ map segment_of (take c.loop-segment.segment-index c.args.segments.now)) (c.loop-segment.invariant es ss has))

pub returns : goal.returns
returns c = λ es ss has.
    subst (λ xs. HasSegments es (ss ++ map segment_of xs) c.loop-segment.out.items c.loop-segment.rows)
    (take_all c.loop-segment.segment-index c.args.segments.now c.loop-segment-test.false) (c.loop-segment.invariant es ss has)
