use Rattle.std.proofs.Common.{◌++◌, map, take, sym, subst, arith}
use Rattle.std.proofs.lemmas.List.{append-nil, take_all}
use Rattle.form_reader.specs.Views.{element_of}
use Rattle.segment_tables.specs.Elements.{HasElements}
use Rattle.segment_tables.proofs.Rows.{mapped_more}
use Rattle.segment_tables.proofs.elements.push_elements.Goals as goal

pub loop-element-init : goal.loop-element-init
loop-element-init c = λ es has. subst (λ xs. HasElements xs c.args.out.now c.args.rows.now) (sym (append-nil es)) has

pub loop-element-preserved : goal.loop-element-preserved
loop-element-preserved c = λ es has.
    subst (λ xs. HasElements xs c.push_element.new.out c.push_element.new.rows)
    (mapped_more element_of es c.args.elements.now c.loop-element.element-index c.element-item.result (grind arith) c.element-item.is)
    (c.in_ok-push_element.ensures (es ++ map element_of (take c.loop-element.element-index c.args.elements.now)) (c.loop-element.invariant es has))

pub returns : goal.returns
returns c = λ es has.
    subst (λ xs. HasElements (es ++ map element_of xs) c.loop-element.out c.loop-element.rows)
    (take_all c.loop-element.element-index c.args.elements.now c.loop-element-test.false) (c.loop-element.invariant es has)
