use Rattle.std.proofs.Common.{◌++◌}
use Rattle.form_reader.specs.Views.{segment_of}
use Rattle.segment_tables.specs.DataSegments.{data_expressions}
use Rattle.segment_tables.proofs.Rows.{has_segment}
use Rattle.segment_tables.proofs.data_segments.push_segment.Goals as goal

pub returns : goal.returns
returns c = λ es ss has.
    has_segment c.args.out.now.items c.push.new.self.items c.args.rows.now c.push_offset.new.rows es ss (segment_of c.args.segment.now) _ has
    (λ i. (c.kind_number.ensures i, c.memory_number.ensures i, c.in_ok-offset.ensures.number (es ++ data_expressions ss) has.expressions i, c.args.segment.now.bytes.now))
    c.in_ok-push.ensures.items (c.in_ok-offset.ensures.pushed (es ++ data_expressions ss) has.expressions)
