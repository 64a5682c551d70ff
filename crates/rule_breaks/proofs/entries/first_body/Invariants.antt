use Rattle.wasm_spec.specs.Module.{bodies_of_section}
use Rattle.form_reader.specs.Views.{body_of}
use Rattle.rule_breaks.specs.Kept.{BodyKeeps}
use Rattle.form_rules.specs.Sections.{entries_left}
use Rattle.form_rules.specs.Views.{lists_of}
use Rattle.rule_breaks.proofs.Searching.{Passes}
use Rattle.rule_breaks.proofs.entries.first_body.Given as goal

-- those so far keep the rule
abbrev pub invariant-loop-body : goal.invariant-loop-body
invariant-loop-body l = Passes (BodyKeeps l.rule (lists_of l.lists)) l.number (entries_left body_of bodies_of_section l.body-iterator) (lists_of l.lists).bodies
