use Rattle.std.specs.List.{flat_map}
use Rattle.form_rules.specs.Source.{source_module}
use Rattle.form_rules.specs.Sections.{entries_left}
use Rattle.rule_breaks.proofs.Numbered.{Remaining}
use Rattle.rule_breaks.proofs.finding.entry_at.Given as goal

-- the entry has another number among those that remain
abbrev pub invariant-loop-found : goal.invariant-loop-found
invariant-loop-found g l =
    Remaining (flat_map g.T.FormEntry.of_section (source_module l.source)) (entries_left g.T.FormEntry.as_data g.T.FormEntry.of_section l.found-iterator) l.entry l.left
