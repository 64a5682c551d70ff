use Rattle.rule_spec.specs.declared.rules.Rule.TheVariants.{L1}
use Rattle.form_reader.specs.Views.{module_of}
use Rattle.form_types.proofs.types.Types.build.Goals as goal

pub unreachable-requires : goal.unreachable-requires
unreachable-requires c =
    let some = (c.in-None.ensures.well (module_of c.args.form.now) c.in_ok-numbering.ensures).1 (c.requires.keeps L1) in
    absurd cc
