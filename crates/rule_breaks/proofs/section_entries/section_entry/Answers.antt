use Rattle.std.proofs.Common.{subst, arith}
use Rattle.wasm_spec.specs.Module as plain
use Rattle.form_rules.specs.Source.{source_module}
use Rattle.rule_breaks.specs.declared.lists.ModuleList.{ModuleList}
use Rattle.rule_breaks.specs.Listed.{IsListed}
use Rattle.rule_breaks.proofs.PlacedEntries.{types_long}
use Rattle.rule_breaks.proofs.section_entries.section_entry.Goals as goal

pub returns-in-None-clause-none : goal.returns-in-None-clause-none
returns-in-None-clause-none c = λ none listed.
    let m = source_module c.args.source in
    let below = subst (λ (ls : ModuleList). IsListed m ls c.args.place.entry) c.in-Types.is listed in
    omega (arith, below, types_long 0 (plain.groups m), c.in_ok-group-in-Types.ensures.none c.in-None.is)
