-- Which rule a module breaks, and where.
use Rattle.std.specs.Prelude.{ℕ, List, length, ◌<◌, ◌^◌}
use Rattle.wasm_spec.specs.Module.{Module}
use Rattle.wasm_spec.specs.Grammar.{Spells}
use Rattle.wasm_spec.specs.Interfaces.{HasNoInterfaceTypes}
use Rattle.rule_spec.specs.Lists.{lists_of_module}
use Rattle.rule_spec.specs.Rules.{Keeps, KeepsBefore}
use Rattle.rule_breaks.specs.declared.refused.BrokenRule.{BrokenRule}
use Rattle.rule_breaks.specs.Breaks.{IsFirstBreak}
use Rattle.rule_breaks.specs.Faults.{IsFaultOf}
use Rattle.rule_breaks.specs.SectionEntries.{IsEntryOf, BeginsAt}

-- the bytes spell a module that breaks the rule and none of a lower number, first at this entry,
-- which is this entry of a section and begins at this byte
pub record BreaksFirst (bytes : List ℕ) (b : BrokenRule) : Type 0 where
  pub of : Module
  pub spelled : Spells bytes of
  pub no_interface_types : HasNoInterfaceTypes of
  pub before : KeepsBefore b.rule of
  pub first : IsFirstBreak b.rule (lists_of_module of) b.place.list b.place.entry
  pub section_entry : IsEntryOf of b.place.list b.place.entry b.section b.section_entry
  pub byte : BeginsAt bytes b.section b.section_entry b.byte
  pub fault : IsFaultOf b.rule (lists_of_module of) b.place.list b.place.entry b.fault

-- a module that is spelled by fewer than 2^30 bytes satisfies all rules
abbrev pub KeepsIfRead : List ℕ → Type 0
KeepsIfRead bytes = length bytes < 2 ^ 30 → (m : Module) → Spells bytes m → HasNoInterfaceTypes m → Keeps m
