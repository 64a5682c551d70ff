use Rattle.std.proofs.Common.{map, take}
use Rattle.std.specs.List.{flat_map}
use Rattle.wasm_spec.specs.Module.{elements_of_section}
use Rattle.form_reader.specs.Views.{payload_of}
use Rattle.segment_tables.specs.Elements.{HasElements}
use Rattle.segment_tables.proofs.elements.element_rows.Given as goal

abbrev pub invariant-loop-payload : goal.invariant-loop-payload
invariant-loop-payload l = HasElements (flat_map elements_of_section (map payload_of (take l.payload-index l.payloads))) l.out l.rows
