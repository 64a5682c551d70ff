use Rattle.std.proofs.Common.{map, ap, sym, subst, arith}
use Rattle.std.proofs.lemmas.List.{append-nil, take_all}
use Rattle.std.specs.List.{flat_map}
use Rattle.wasm_spec.specs.Module.{segments_of_section}
use Rattle.form_reader.specs.Views.{segment_of, payload_of}
use Rattle.segment_tables.specs.Expressions.{HasExpressions}
use Rattle.segment_tables.specs.DataSegments.{data_told, HasSegments}
use Rattle.segment_tables.proofs.Rows.{listed_more}
use Rattle.segment_tables.proofs.data_segments.data_rows.Goals as goal

pub loop-payload-init : goal.loop-payload-init
loop-payload-init c = λ es has. record {
  rows = ap (map data_told) c.new-out.ensures.items;
  expressions = subst (λ xs. HasExpressions xs c.args.rows.now) (sym (append-nil es)) has;
}

pub loop-payload-preserved : goal.loop-payload-preserved
loop-payload-preserved c = λ es has.
    subst (λ xs. HasSegments es xs c.push_segments.new.out.items c.push_segments.new.rows)
    (listed_more segments_of_section payload_of c.args.payloads.now c.loop-payload.payload-index c.payload-item.result (map segment_of c.segments_in.result.now)
    (grind arith) c.payload-item.is c.segments_in.ensures)
    (c.in_ok-push_segments.ensures es _ (c.loop-payload.invariant es has))

pub returns : goal.returns
returns c = λ es has.
    subst (λ xs. HasSegments es (flat_map segments_of_section (map payload_of xs)) c.loop-payload.out.items c.loop-payload.rows)
    (take_all c.loop-payload.payload-index c.args.payloads.now c.loop-payload-test.false) (c.loop-payload.invariant es has)
