use Rattle.std.proofs.Common.{◌≡◌, map}
use Rattle.std.specs.List.{filter_map}
use Rattle.custom_sections.specs.Views.{hint_entry_of}
use Rattle.form_rules.specs.Source.{source_module}
use Rattle.form_rules.specs.Singles.{singles_left}
use Rattle.module_customs.specs.Hints.{hint_lists, last_or, module_hints}
use Rattle.module_customs.proofs.hints.last_hints.Given as goal

-- the last entries so far, or later ones, are those of the module
abbrev pub invariant-loop-section : goal.invariant-loop-section
invariant-loop-section l =
    last_or (map hint_entry_of l.last.items) (filter_map hint_lists (singles_left l.section-iterator)) ≡ module_hints (source_module l.source)
