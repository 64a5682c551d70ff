use Rattle.std.proofs.Common.{◌∙◌, Bool, false, Option, ap}
use Rattle.std.specs.Option.{unwrap_or}
use Rattle.form_reader.specs.Views.{composite_of}
use Rattle.rule_spec.specs.Lists.{kind_at}
use Rattle.form_rules.specs.Views.{lists_of}
use Rattle.form_rules.proofs.KindFunctions.{equal-result}
use Rattle.form_rules.specs.Defaults.{defaults_of}
use Rattle.form_rules.proofs.UnnamedKinds.{kind-defaults-alone}
use Rattle.form_rules.proofs.classes.type_has_defaults.Goals as goal

pub returns-in-Some : goal.returns-in-Some
returns-in-Some c =
    c.kind_has_defaults.ensures ∙ ap (λ (o : Option Bool). unwrap_or o false)
    (equal-result defaults_of kind-defaults-alone (composite_of c.in-Some.kind.now) (kind_at (lists_of c.args.lists.now) c.args.index) c.in-Some.ensures)
