use Rattle.form_rules.specs.declared.lists.Spaces.{Spaces}
use Rattle.form_rules.specs.Source.{source_module, sections_left}
use Rattle.form_rules.specs.Gathered.{AddsDefined}
use Rattle.form_rules.proofs.gather.add_all_defined.Given as goal

-- once what the remaining sections define is added, all is added
abbrev pub invariant-loop-section : goal.invariant-loop-section
invariant-loop-section l = (later : Spaces) → AddsDefined l.spaces later (sections_left l.section-iterator)
    → AddsDefined l.initial.spaces later (source_module l.source)
