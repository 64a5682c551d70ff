use Rattle.std.proofs.Common.{length}
use Rattle.wasm_spec.specs.Module.{elements_of_section}
use Rattle.form_reader.specs.Views.{element_of}
use Rattle.form_reader.specs.SectionRows.{element_segment}
use Rattle.form_rules.specs.Walk.{walk_left}
use Rattle.form_rules.specs.Views.{lists_of}
use Rattle.rule_breaks.specs.Kept.{ElementKeeps}
use Rattle.rule_breaks.proofs.Searching.{Passes}
use Rattle.rule_breaks.proofs.elements.first_element.Given as goal

-- those so far keep the rule
abbrev pub invariant-loop-elements : goal.invariant-loop-elements
invariant-loop-elements l = Passes (ElementKeeps l.rule (lists_of l.typing.lists.now)) l.number (walk_left element_segment.read element_of elements_of_section l.elements) (lists_of l.typing.lists.now).elements

abbrev pub decreases-loop-elements : goal.decreases-loop-elements
decreases-loop-elements l = length (walk_left element_segment.read element_of elements_of_section l.elements)
