use Rattle.form_rules.specs.Source.{source_module}
use Rattle.module_environ.proofs.AskedHints.{no-hints}
use Rattle.module_environ.proofs.customs.asked_hints.Goals as goal

pub returns-else-asked : goal.returns-else-asked
returns-else-asked c = no-hints c.args.asked c.if-asked.false (source_module c.args.source) c.new.result c.new.ensures.empty
