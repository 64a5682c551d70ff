use Rattle.std.proofs.Common.{List, ◌++◌, map, take}
use Rattle.wasm_spec.specs.Module as plain
use Rattle.form_reader.specs.Views.{element_of}
use Rattle.segment_tables.specs.Elements.{HasElements}
use Rattle.segment_tables.proofs.elements.push_elements.Given as goal

abbrev pub invariant-loop-element : goal.invariant-loop-element
invariant-loop-element l = (es : List plain.Element) → HasElements es l.initial.out l.initial.rows → HasElements (es ++ map element_of (take l.element-index l.elements)) l.out l.rows
