use Rattle.std.proofs.Common.{map, subst, arith}
use Rattle.std.proofs.lemmas.List.{take_all}
use Rattle.std.specs.List.{flat_map}
use Rattle.wasm_spec.specs.Module.{elements_of_section}
use Rattle.form_reader.specs.Views.{element_of, payload_of}
use Rattle.segment_tables.specs.Elements.{HasElements}
use Rattle.segment_tables.proofs.Rows.{listed_more}
use Rattle.segment_tables.proofs.elements.element_rows.Goals as goal

pub loop-payload-preserved : goal.loop-payload-preserved
loop-payload-preserved c =
    subst (λ xs. HasElements xs c.push_elements.new.out c.push_elements.new.rows)
    (listed_more elements_of_section payload_of c.args.payloads.now c.loop-payload.payload-index c.payload-item.result (map element_of c.elements_in.result.now)
    (grind arith) c.payload-item.is c.elements_in.ensures)
    (c.in_ok-push_elements.ensures _ c.loop-payload.invariant)

pub returns : goal.returns
returns c =
    subst (λ xs. HasElements (flat_map elements_of_section (map payload_of xs)) c.loop-payload.out c.loop-payload.rows)
    (take_all c.loop-payload.payload-index c.args.payloads.now c.loop-payload-test.false) c.loop-payload.invariant
