use Rattle.std.proofs.Common.{◌↔◌, ◌+◌, ◌≤◌, length, All, IsTrue}
use Rattle.wasm_spec.specs.Module.{globals_of_section}
use Rattle.form_reader.specs.Views.{global_of}
use Rattle.rule_spec.specs.Expressions.{AreGlobalsTyped}
use Rattle.rule_spec.specs.References.{GlobalRefersIn}
use Rattle.form_reader.specs.SectionRows.{global_entry}
use Rattle.form_rules.specs.Walk.{walk_left}
use Rattle.form_rules.specs.Views.{lists_of}
use Rattle.form_rules.proofs.globals.walk_globals.Given as goal

-- all hold exactly where those checked so far and the remaining ones do
abbrev pub invariant-loop-globals : goal.invariant-loop-globals
invariant-loop-globals l =
    let ls = lists_of l.typing.lists.now in
    let left = walk_left global_entry.read global_of globals_of_section l.globals in
    record {
      counted : l.index + length left ≤ length ls.global_types;
      typed : (IsTrue l.kept.typed × AreGlobalsTyped ls l.index left) ↔ AreGlobalsTyped ls ls.imported_globals ls.globals;
      refer : (IsTrue l.kept.refer × All (GlobalRefersIn (length ls.types)) left) ↔ All (GlobalRefersIn (length ls.types)) ls.globals;
    }

abbrev pub decreases-loop-globals : goal.decreases-loop-globals
decreases-loop-globals l = length (walk_left global_entry.read global_of globals_of_section l.globals)
