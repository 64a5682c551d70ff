use Rattle.rule_spec.specs.WorkedKept.{overlapping, overlap_bytes}
use Rattle.form_reader.proofs.SectionLaws.{module_once}
use Rattle.form_rules.proofs.OverlapRead.{overlap-spelled, cut-unspelled}
use Rattle.form_rules.proofs.worked.worked_spelling.Goals as goal

pub returns-clause-spelled : goal.returns-clause-spelled
returns-clause-spelled c = overlap-spelled.0

pub returns-clause-no_other : goal.returns-clause-no_other
returns-clause-no_other c = λ m spelled. module_once overlap_bytes m overlapping spelled overlap-spelled.0

pub returns-clause-cut_short : goal.returns-clause-cut_short
returns-clause-cut_short c = cut-unspelled
