use Rattle.std.proofs.Common.{◌≡◌, ◌∙◌, map, ap, sym, subst}
use Rattle.form_reader.specs.Views.{payload_of, module_of}
use Rattle.wasm_spec.specs.Module.{segments}
use Rattle.segment_tables.specs.DataSegments.{data_told, HasSegments}
use Rattle.segment_tables.specs.Elements.{HasElements}
use Rattle.segment_tables.specs.References.{module_references, ListsOnce}
use Rattle.segment_tables.specs.Tables.{elements, in_elements, module_expressions}
use Rattle.segment_tables.proofs.tables.segment_tables.Goals as goal

pub returns : goal.returns
returns c =
    let m = module_of c.args.form.now in
    let sections : c.as_slice-payloads.result.now ≡ c.args.form.now.payloads.items = c.as_slice-payloads.ensures.value in
    let of_elements : HasElements (elements m) c.in_ok-elements.elements c.element_rows.new.rows
    = subst (λ ps. HasElements (elements (map payload_of ps)) c.in_ok-elements.elements c.element_rows.new.rows) sections c.in_ok-elements.ensures in
    let of_segments : HasSegments (in_elements m) (segments m) c.in_ok-segments.segments.items c.data_rows.new.rows
    = subst (λ ps. HasSegments (in_elements m) (segments (map payload_of ps)) c.in_ok-segments.segments.items c.data_rows.new.rows) sections
    (c.in_ok-segments.ensures (in_elements m) of_elements.expressions) in
    record {
      data_segments = ap (map data_told) c.leak.ensures.value ∙ of_segments.rows;
      element_segments = c.leak-2.ensures.value ∙ of_elements.rows;
      functions = c.leak-3.ensures.value ∙ of_elements.functions;
      expressions = c.expressions_record.ensures (module_expressions m) of_segments.expressions;
      references = subst (ListsOnce (module_references m)) (sym c.leak-4.ensures.value)
          (subst (λ ps. ListsOnce (module_references (map payload_of ps)) c.in_ok-references.references.items) sections c.in_ok-references.ensures);
    }
