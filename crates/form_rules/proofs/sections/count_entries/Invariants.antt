use Rattle.std.proofs.Common.{◌≡◌, ◌+◌, ◌≤◌, length}
use Rattle.std.specs.Prelude.{min}
use Rattle.std.specs.List.{flat_map}
use Rattle.form_rules.specs.Source.{source_module, sections_left}
use Rattle.form_rules.proofs.sections.count_entries.Given as goal

-- the entries of the remaining sections are still to be counted
abbrev pub invariant-loop-section : goal.invariant-loop-section
invariant-loop-section g l = (l.count ≤ 18446744073709551615) × (min (l.count + length (flat_map g.T.FormEntry.of_section (sections_left l.section-iterator))) 18446744073709551615
    ≡ min (length (flat_map g.T.FormEntry.of_section (source_module l.source))) 18446744073709551615)
