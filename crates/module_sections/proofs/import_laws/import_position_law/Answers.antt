use Rattle.module_sections.proofs.ImportPlaces.{import-place}
use Rattle.module_sections.proofs.import_laws.import_position_law.Goals as goal

pub returns : goal.returns
returns c = import-place
