-- Where an entry of a list begins (core specification, 5.5, sections).
use Rattle.std.specs.Prelude.{ℕ, List, length, ◌<◌, ◌^◌}
use Rattle.wasm_spec.specs.Module.{Module}
use Rattle.wasm_spec.specs.Grammar.{Spells}
use Rattle.wasm_spec.specs.Interfaces.{HasNoInterfaceTypes}
use Rattle.rule_breaks.specs.declared.lists.Break.{Break}
use Rattle.rule_breaks.specs.declared.list_places.EntryPlace.{EntryPlace}
use Rattle.rule_breaks.specs.Listed.{IsListed}
use Rattle.rule_breaks.specs.SectionEntries.{IsEntryOf, BeginsAt}

-- the entry of a list of the module is this entry of a section, which begins at this byte
pub record IsPlacedAt (bytes : List ℕ) (m : Module) (place : Break) (p : EntryPlace) : Type 0 where
  pub section_entry : IsEntryOf m place.list place.entry p.section p.section_entry
  pub byte : BeginsAt bytes p.section p.section_entry p.byte

-- the bytes spell a module that has the entry there
pub record IsEntryPlaceOf (bytes : List ℕ) (place : Break) (p : EntryPlace) : Type 0 where
  pub of : Module
  pub spelled : Spells bytes of
  pub no_interface_types : HasNoInterfaceTypes of
  pub at : IsPlacedAt bytes of place p

-- a module that is spelled by fewer than 2^30 bytes has no such entry
abbrev pub LacksIfRead : List ℕ → Break → Type 0
LacksIfRead bytes place = length bytes < 2 ^ 30 → (m : Module) → Spells bytes m → HasNoInterfaceTypes m → ¬ IsListed m place.list place.entry
