use Rattle.form_reader.specs.Views.{composite_of}
use Rattle.rule_spec.specs.Lists.{kind_at}
use Rattle.rule_spec.specs.Indices.{TakesAndGivesNothing}
use Rattle.form_rules.specs.Views.{lists_of}
use Rattle.form_rules.proofs.KindFunctions.{holds}
use Rattle.form_rules.proofs.StartTypes.{nothing-alone}
use Rattle.form_rules.proofs.start.is_type_of_start.Goals as goal

pub returns-in-Some : goal.returns-in-Some
returns-in-Some c =
    let t = c.takes_and_gives_nothing.ensures in
    let h = holds TakesAndGivesNothing nothing-alone (composite_of c.in-Some.kind.now) (kind_at (lists_of c.args.lists.now) c.args.index) c.in-Some.ensures in
    (λ so. h.0 (t.0 so), λ so. t.1 (h.1 so))
