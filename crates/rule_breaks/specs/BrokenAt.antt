-- Where the entry that breaks a rule begins.
use Rattle.std.specs.Prelude.{◌≡◌, ℕ, List, length, ◌<◌, ◌^◌}
use Rattle.std.specs.List.{flat_map}
use Rattle.wasm_spec.specs.Module as plain
use Rattle.wasm_spec.specs.Module.{Module}
use Rattle.wasm_spec.specs.Grammar.{Spells}
use Rattle.wasm_spec.specs.Interfaces.{HasNoInterfaceTypes}
use Rattle.rule_spec.specs.declared.rules.Rule.{Rule}
use Rattle.refusal_place.specs.declared.kind.SectionKind.{SectionKind}
use Rattle.refusal_place.specs.declared.kind.SectionKind.TheVariants as kind
use Rattle.refusal_place.specs.Listed.{listed_count}
use Rattle.rule_breaks.specs.declared.lists.Break.{Break}
use Rattle.rule_breaks.specs.declared.refused.BrokenRule.{BrokenRule}
use Rattle.rule_spec.specs.Lists.{lists_of_module}
use Rattle.rule_breaks.specs.Faults.{IsFaultOf}
use Rattle.rule_breaks.specs.SectionEntries.{IsEntryOf, BeginsAt}

-- the rule and the place, with the entry of a section that it is, the byte where that begins, and
-- what is wrong with it
pub record IsBrokenAt (bytes : List ℕ) (m : Module) (rule : Rule) (place : Break) (b : BrokenRule) : Type 0 where
  pub rule_is : b.rule ≡ rule
  pub place_is : b.place ≡ place
  pub section_entry : IsEntryOf m place.list place.entry b.section b.section_entry
  pub byte : BeginsAt bytes b.section b.section_entry b.byte
  pub fault : IsFaultOf rule (lists_of_module m) place.list place.entry b.fault

-- the module has this entry of a section of the kind; start and data count sections have one number
abbrev pub HasSectionEntry : Module → SectionKind → ℕ → Type 0
HasSectionEntry m kind.Start entry = 0 < length (flat_map plain.starts_of_section m)
HasSectionEntry m kind.DataCount entry = 0 < length (flat_map plain.data_counts_of_section m)
HasSectionEntry m section entry = entry < listed_count section m

-- fewer than 2^30 bytes spell a module that has this entry of a section
pub record HasEntryInSection (bytes : List ℕ) (section : SectionKind) (entry : ℕ) : Type 0 where
  pub of : Module
  pub few : length bytes < 2 ^ 30
  pub spelled : Spells bytes of
  pub no_interface_types : HasNoInterfaceTypes of
  pub has : HasSectionEntry of section entry
