use Rattle.std.proofs.Common.{◌≡◌}
use Rattle.std.specs.List.{list_any}
use Rattle.form_rules.specs.Source.{source_module}
use Rattle.form_rules.specs.Singles.{singles_left}
use Rattle.module_customs.specs.DebugSections.{is_debug_section}
use Rattle.module_customs.proofs.debug.has_debug_section.Given as goal

-- the sections so far hold none
abbrev pub invariant-loop-section : goal.invariant-loop-section
invariant-loop-section l = list_any is_debug_section (singles_left l.section-iterator) ≡ list_any is_debug_section (source_module l.source)
