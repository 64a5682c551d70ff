use Rattle.form_rules.proofs.Gathering.{AddsDefined-customs}
use Rattle.form_rules.proofs.gather.add_section.Goals as goal

pub returns-in-Customs : goal.returns-in-Customs
returns-in-Customs c = rw c.in-Customs.is (AddsDefined-customs c.args.spaces.now c.in-Customs.field-0)
