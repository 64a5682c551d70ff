use Rattle.std.proofs.Common.{◌≡◌}
use Rattle.std.specs.List.{flat_map}
use Rattle.wasm_spec.specs.Module.{starts_of_section}
use Rattle.form_rules.specs.Source.{source_module, sections_left}
use Rattle.module_sections.proofs.start.start_function.Given as goal

-- the sections so far have no start function
abbrev pub invariant-loop-section : goal.invariant-loop-section
invariant-loop-section l = flat_map starts_of_section (sections_left l.section-iterator) ≡ flat_map starts_of_section (source_module l.source)
