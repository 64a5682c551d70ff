use Rattle.std.proofs.Common.{[], List, ◌++◌, ap, sym}
use Rattle.form_reader.proofs.CustomRuns.{none_listed}
use Rattle.form_reader.proofs.Listed.{none_there}
use Rattle.form_rules.proofs.walk.entries_here.Goals as goal

pub returns-in-Read : goal.returns-in-Read
returns-in-Read g c =
    rw (c.in-Read.is, none_there g.E.InputEntry.form _ _ c.none.ensures) (ap (λ (xs : List g.E.InputEntry.Data). xs ++ []) c.in_payload.ensures)

pub returns-in-Customs : goal.returns-in-Customs
returns-in-Customs g c =
    rw (c.in-Customs.is, none_there g.E.InputEntry.form _ _ c.none-in-Customs.ensures)
    (sym (none_listed g.E.InputEntry.of_section g.E.InputEntry.no_customs c.in-Customs.field-0))
