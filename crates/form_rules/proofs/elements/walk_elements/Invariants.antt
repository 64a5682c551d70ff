use Rattle.std.proofs.Common.{◌↔◌, length, All, IsTrue}
use Rattle.wasm_spec.specs.Module.{elements_of_section}
use Rattle.form_reader.specs.Views.{element_of}
use Rattle.rule_spec.specs.Expressions.{IsElementTyped}
use Rattle.rule_spec.specs.Indices.{IsElementInRange}
use Rattle.rule_spec.specs.References.{ElementRefersIn}
use Rattle.form_reader.specs.SectionRows.{element_segment}
use Rattle.form_rules.specs.Walk.{walk_left}
use Rattle.form_rules.specs.Views.{lists_of}
use Rattle.form_rules.proofs.elements.walk_elements.Given as goal

-- all hold exactly where those checked so far and the remaining ones do
abbrev pub invariant-loop-elements : goal.invariant-loop-elements
invariant-loop-elements l =
    let ls = lists_of l.typing.lists.now in
    let left = walk_left element_segment.read element_of elements_of_section l.elements in
    record {
      typed : (IsTrue l.kept.typed × All (IsElementTyped ls) left) ↔ All (IsElementTyped ls) ls.elements;
      in_range : (IsTrue l.kept.in_range × All (IsElementInRange ls) left) ↔ All (IsElementInRange ls) ls.elements;
      refer : (IsTrue l.kept.refer × All (ElementRefersIn (length ls.types)) left) ↔ All (ElementRefersIn (length ls.types)) ls.elements;
    }

abbrev pub decreases-loop-elements : goal.decreases-loop-elements
decreases-loop-elements l = length (walk_left element_segment.read element_of elements_of_section l.elements)
