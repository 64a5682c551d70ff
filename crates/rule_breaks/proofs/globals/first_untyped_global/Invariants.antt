use Rattle.std.proofs.Common.{◌≡◌, ◌+◌, ◌≤◌, length}
use Rattle.wasm_spec.specs.Module.{globals_of_section}
use Rattle.form_reader.specs.Views.{global_of}
use Rattle.form_reader.specs.SectionRows.{global_entry}
use Rattle.form_rules.specs.Walk.{walk_left}
use Rattle.form_rules.specs.Views.{lists_of}
use Rattle.rule_breaks.proofs.UntypedGlobals.{GlobalsPass}
use Rattle.rule_breaks.proofs.globals.first_untyped_global.Given as goal

-- those so far are typed
abbrev pub invariant-loop-globals : goal.invariant-loop-globals
invariant-loop-globals l =
    let ls = lists_of l.typing.lists.now in
    let left = walk_left global_entry.read global_of globals_of_section l.globals in
    record {
      counted : l.index + length left ≤ length ls.global_types;
      place : l.index ≡ ls.imported_globals + l.number;
      passes : GlobalsPass ls l.number left;
    }

abbrev pub decreases-loop-globals : goal.decreases-loop-globals
decreases-loop-globals l = length (walk_left global_entry.read global_of globals_of_section l.globals)
