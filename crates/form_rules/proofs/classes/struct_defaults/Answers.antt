use Rattle.std.proofs.Common.{◌∙◌, ◌<◌, ◌++◌, ◌∷◌, [], false, length, sym, arith}
use Rattle.std.proofs.lemmas.List.{length-map, take_all, take_more}
use Rattle.rule_spec.specs.Lists.{Declared}
use Rattle.form_rules.specs.Views.{lists_of}
use Rattle.form_rules.specs.Defaults.{defaults, defaults_of}
use Rattle.form_rules.proofs.DefaultLemmas.{noted_next}
use Rattle.form_rules.proofs.classes.struct_defaults.Goals as goal

pub loop-index-preserved : goal.loop-index-preserved
loop-index-preserved c =
    let types = c.args.lists.now.types in
    let all = defaults (lists_of c.args.lists.now) in
    let i = c.loop-index.index in
    let lt : i < length types = rw c.count-index-end.ensures at c.loop-index-test.true in
    c.in_ok-push.ensures.items
    ∙ (λ j. c.loop-index.invariant j ++ (c.type_has_defaults.ensures ∙ sym (noted_next types i lt)) j ∷ [])
    ∙ sym (take_more all i false (omega (arith, lt, length-map types (λ (d : Declared). defaults_of d.type.composite.inner))))

pub returns : goal.returns
returns c =
    let types = c.args.lists.now.types in
    c.loop-index.invariant ∙ take_all c.loop-index.index (defaults (lists_of c.args.lists.now))
    (omega (arith, c.loop-index-test.false, c.count-index-end.ensures, length-map types (λ (d : Declared). defaults_of d.type.composite.inner)))
