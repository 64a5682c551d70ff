-- What a record reports of what makes a module too large.
use Rattle.std.specs.Prelude.{◌≡◌, ℕ, List, Option, Some, None}
use Rattle.rule_breaks.specs.declared.list_places.EntryPlace.{EntryPlace}
use Rattle.refusal_place.specs.Kinds.{id_of}
use Rattle.plan_text.specs.declared.error.TranslateError.TheVariants as refusal
use Rattle.translate.specs.Options.{Options}
use Rattle.translate.specs.Planned.{HasCause}
use Rattle.plan_excess.specs.declared.kinds.Excess.{Excess}
use Rattle.plan_excess.specs.declared.kinds.ExcessKind.{ExcessKind}
use Rattle.plan_excess.specs.declared.kinds.ExcessKind.TheVariants as excess
use Rattle.plan_excess.specs.Excess.{IsExcess}
use Rattle.plan_excess.specs.ExcessTexts.{excess_text}
use Rattle.planner_c.specs.declared.excess.ExcessRecord.{ExcessRecord}

abbrev pub kind_number : ExcessKind → ℕ
kind_number excess.Input = 1
kind_number (excess.Image memory) = 2
kind_number (excess.Object type_index) = 3
kind_number (excess.Exception tag) = 4
kind_number excess.Context = 5

-- the index of what is too large, or the greatest number of 32 bits
abbrev pub kind_index : ExcessKind → ℕ
kind_index excess.Input = 4294967295
kind_index (excess.Image memory) = memory
kind_index (excess.Object type_index) = type_index
kind_index (excess.Exception tag) = tag
kind_index excess.Context = 4294967295

-- the record represents the place, or that there is none
abbrev pub TellsEntryPlace : Option EntryPlace → ExcessRecord → Type 0
TellsEntryPlace None r = (r.section ≡ 4294967295) × (r.section_entry ≡ 0) × (r.byte ≡ 0)
TellsEntryPlace (Some p) r = (r.section ≡ id_of p.section) × (r.section_entry ≡ p.section_entry) × (r.byte ≡ p.byte)

-- the record represents what is too large, and where it is
pub record TellsExcess (e : Excess) (r : ExcessRecord) : Type 0 where
  pub kind : (r.kind ≡ kind_number e.kind) × (r.index ≡ kind_index e.kind)
  pub place : TellsEntryPlace e.place r
  pub sentence : (r.sentence.now ≡ excess_text e) × (r.made ≡ 1)

-- the module is too large to be planned, and of what makes it so a fact holds
pub record HasExcess (o : Options) (bytes : List ℕ) (P : Excess → Type 0) : Type 0 where
  pub excess : Excess
  pub is_excess : IsExcess o bytes excess
  pub holds : P excess

-- nothing makes the bytes too large, and no offset overflows
abbrev pub FitsAll : Options → List ℕ → Type 0
FitsAll o bytes = (¬ HasCause o bytes refusal.TooLarge) × (¬ HasCause o bytes refusal.OffsetOverflow)
