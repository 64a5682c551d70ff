use Rattle.std.proofs.Common.{[], refl}
use Rattle.form_reader.specs.SectionRows.{custom_section}
use Rattle.form_reader.proofs.Listed.{none_there}
use Rattle.form_reader.proofs.customs.InputCustoms.none.Goals as goal

pub returns : goal.returns
returns c = none_there custom_section.read 0 [] refl
