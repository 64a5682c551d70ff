use Rattle.std.proofs.Common.{◌++◌, ◌∙◌, Bool, List, map, ap, sym}
use Rattle.std.proofs.lemmas.List.{take_all}
use Rattle.form_reader.specs.declared.types.SubType.{SubType}
use Rattle.form_reader.specs.Views.{composite_of}
use Rattle.rule_breaks.specs.TypeFlags.{is_function}
use Rattle.rule_breaks.proofs.DeclaredWell.{flags_of_types}
use Rattle.rule_breaks.proofs.declared.add_flags.Goals as goal

pub returns : goal.returns
returns c = c.loop-ty.invariant
    ∙ ap (λ (ts : List SubType). c.args.flags.now.items ++ map (λ (t : SubType). is_function (composite_of t.composite)) ts) (take_all _ c.args.types.now c.loop-ty-test.false)
    ∙ ap (λ (bs : List Bool). c.args.flags.now.items ++ bs) (sym (flags_of_types c.args.types.now))
