use Rattle.std.proofs.Common.{sym, rules}
use Rattle.form_reader.proofs.CustomRuns.{none_listed}
use Rattle.form_rules.proofs.sections.entries_in.Goals as goal

pub returns-in-Customs : goal.returns-in-Customs
returns-in-Customs g c = rw c.in-Customs.is (sym (search (rules, none_listed)))
