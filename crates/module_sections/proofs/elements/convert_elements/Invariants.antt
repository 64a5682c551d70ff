use Rattle.std.proofs.Common.{◌≡◌, ◌++◌, List, length}
use Rattle.std.specs.List.{flat_map}
use Rattle.wasm_spec.specs.Module.{Element, elements_of_section}
use Rattle.form_reader.specs.Views.{element_of}
use Rattle.form_reader.specs.SectionRows.{element_segment}
use Rattle.form_rules.specs.Source.{source_module}
use Rattle.form_rules.specs.Walk.{walk_left}
use Rattle.module_sections.specs.Escapes.{item_functions}
use Rattle.module_sections.specs.EscapeLog.{after_escapes}
use Rattle.module_sections.specs.Segments.{AreElementsConvertible, HoldsElements}
use Rattle.module_sections.proofs.elements.convert_elements.Given as goal

-- the segments so far are held, and with the functions of the remaining ones all are recorded
abbrev pub invariant-loop-elements : goal.invariant-loop-elements
invariant-loop-elements g l =
    let env = goal.TypeConvert-dyn g l.env.now in
    let all = flat_map elements_of_section (source_module l.source) in
    let left = walk_left element_segment.read element_of elements_of_section l.elements in
    record {
      convertible : AreElementsConvertible (env.knows l.env.now.1) l.initial.escaping.count left;
      holds : (came : List Element) × HoldsElements (env.look_up l.env.now.1) came l.segments × (came ++ left ≡ all);
      noted : after_escapes l.escaping (flat_map (λ e. item_functions e.items) left)
          ≡ after_escapes l.initial.escaping (flat_map (λ e. item_functions e.items) all);
    }

-- the remaining segments
abbrev pub decreases-loop-elements : goal.decreases-loop-elements
decreases-loop-elements g l = length (walk_left element_segment.read element_of elements_of_section l.elements)
