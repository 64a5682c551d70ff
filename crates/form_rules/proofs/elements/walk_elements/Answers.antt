use Rattle.std.proofs.Common.{length}
use Rattle.form_reader.specs.Views.{element_of}
use Rattle.rule_spec.specs.Expressions.{IsElementTyped}
use Rattle.rule_spec.specs.Indices.{IsElementInRange}
use Rattle.rule_spec.specs.References.{ElementRefersIn}
use Rattle.form_rules.specs.Views.{lists_of}
use Rattle.form_rules.proofs.Taking.{taken}
use Rattle.form_rules.proofs.Walking.{by_All, asked_more, asked_all}
use Rattle.form_rules.proofs.elements.walk_elements.Goals as goal

pub loop-elements-preserved : goal.loop-elements-preserved
loop-elements-preserved c =
    let l = lists_of c.args.typing.now.lists.now in
    let e = element_of c.entry.result.now in
    let at = taken _ _ _ _ _ c.if-branch.true c.in_ok-advance.ensures c.entry.ensures in
    let so_far = c.loop-elements.invariant in
    let added = c.in_ok-kept.ensures in
    record {
      typed = asked_more (by_All (IsElementTyped l)) _ _ _ _ e so_far.typed _ at added.typed;
      in_range = asked_more (by_All (IsElementInRange l)) _ _ _ _ e so_far.in_range _ at added.in_range;
      refer = asked_more (by_All (ElementRefersIn (length l.types))) _ _ _ _ e so_far.refer _ at added.refer;
    }

pub returns : goal.returns
returns c =
    let l = lists_of c.args.typing.now.lists.now in
    let so_far = c.loop-elements.invariant in
    record {
      typed = asked_all (by_All (IsElementTyped l)) _ _ _ _ _ so_far.typed _ c.if-branch.false c.in_ok-advance.ensures;
      in_range = asked_all (by_All (IsElementInRange l)) _ _ _ _ _ so_far.in_range _ c.if-branch.false c.in_ok-advance.ensures;
      refer = asked_all (by_All (ElementRefersIn (length l.types))) _ _ _ _ _ so_far.refer _ c.if-branch.false c.in_ok-advance.ensures;
    }
