-- What a record reports of the place at which a module is refused.
use Rattle.std.specs.Prelude.{◌≡◌, ◌⊎◌, ℕ, List, length, Option, Some, None, IfSome}
use Rattle.std.specs.Option.{option_map}
use Rattle.refusal_place.specs.declared.place.Fault.{Fault}
use Rattle.refusal_place.specs.declared.place.Fault.TheVariants as fault
use Rattle.refusal_place.specs.declared.place.Place.{Place}
use Rattle.refusal_place.specs.Kinds.{id_of}
use Rattle.refusal_place.specs.Places.{Decides, IsOpenWhereItEnds, IsPlaceOf}
use Rattle.refusal_place.specs.Texts.{place_text}
use Rattle.planner_c.specs.declared.places.PlaceRecord.{PlaceRecord}

-- no place, a place, or no memory
abbrev pub IsPlaceStatus : ℕ → Type 0
IsPlaceStatus status = (status ≡ 0) ⊎ (status ≡ 1) ⊎ (status ≡ 5)

-- a number, or the greatest of 32 bits where there is none
abbrev pub number_or_none : Option ℕ → ℕ
number_or_none None = 4294967295
number_or_none (Some n) = n

abbrev pub fault_number : Fault → ℕ
fault_number fault.Header = 1
fault_number (fault.UnknownSection id) = 2
fault_number fault.SectionOrder = 3
fault_number fault.SectionSize = 4
fault_number (fault.SectionEnd end) = 5
fault_number fault.Number = 6
fault_number fault.Name = 7
fault_number fault.Count = 8
fault_number fault.Entry = 9
fault_number fault.Remainder = 10
fault_number (fault.Unsupported what) = 11

-- the record represents the place
pub record TellsPlace (p : Place) (r : PlaceRecord) : Type 0 where
  pub section : (r.section ≡ number_or_none (option_map id_of p.section)) × (r.section_start ≡ p.section_start)
  pub entry : r.entry ≡ number_or_none p.entry
  pub byte : r.byte ≡ p.byte
  pub decided : r.decided ≡ number_or_none p.decided
  pub fault : r.fault ≡ fault_number p.fault
  pub sentence : (r.sentence.now ≡ place_text p) × (r.made ≡ 1)

-- the bytes are refused at a place, of which a fact holds
pub record HasPlace (bytes : List ℕ) (P : Place → Type 0) : Type 0 where
  pub place : Place
  pub is_place : IsPlaceOf bytes place
  pub decides : IfSome place.decided (Decides bytes)
  pub early : IsOpenWhereItEnds (length bytes) place
  pub holds : P place
