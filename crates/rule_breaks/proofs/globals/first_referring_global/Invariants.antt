use Rattle.std.proofs.Common.{length}
use Rattle.wasm_spec.specs.Module.{globals_of_section}
use Rattle.form_reader.specs.Views.{global_of}
use Rattle.rule_spec.specs.References.{GlobalRefersIn}
use Rattle.form_reader.specs.SectionRows.{global_entry}
use Rattle.form_rules.specs.Walk.{walk_left}
use Rattle.form_rules.specs.Views.{lists_of}
use Rattle.rule_breaks.proofs.Searching.{Passes}
use Rattle.rule_breaks.proofs.globals.first_referring_global.Given as goal

-- those so far refer to declared types
abbrev pub invariant-loop-globals : goal.invariant-loop-globals
invariant-loop-globals l =
    Passes (GlobalRefersIn (length (lists_of l.lists).types)) l.number (walk_left global_entry.read global_of globals_of_section l.globals) (lists_of l.lists).globals

abbrev pub decreases-loop-globals : goal.decreases-loop-globals
decreases-loop-globals l = length (walk_left global_entry.read global_of globals_of_section l.globals)
