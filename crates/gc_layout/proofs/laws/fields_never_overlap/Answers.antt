use Rattle.gc_layout.proofs.FieldLaws.{behind_header, apart, within}
use Rattle.gc_layout.proofs.laws.fields_never_overlap.Goals as goal

pub returns-clause-behind : goal.returns-clause-behind
returns-clause-behind c = behind_header

pub returns-clause-apart : goal.returns-clause-apart
returns-clause-apart c = apart

pub returns-clause-within : goal.returns-clause-within
returns-clause-within c = within
