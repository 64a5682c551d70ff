use Rattle.std.proofs.Common.{◌≡◌, List, [], ◌++◌, length}
use Rattle.wasm_spec.specs.Module as plain
use Rattle.form_rules.specs.Source.{source_module}
use Rattle.form_rules.specs.Singles.{singles_left}
use Rattle.module_customs.specs.Names.{names_after, KeepsNames}
use Rattle.module_customs.proofs.names.kept_names.Given as goal

abbrev pub invariant-loop-section : goal.invariant-loop-section
invariant-loop-section l = record {
  came : List plain.Payload;
  whole : came ++ singles_left l.section-iterator ≡ source_module l.source;
  declared : l.declared ≡ length (plain.functions came);
  kept : KeepsNames (names_after l.locals [] came) l.kept;
}
