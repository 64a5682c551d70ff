-- What the parts of the search for an entry find.
use Rattle.std.specs.Prelude.{◌≡◌, ◌⊎◌, ℕ, ◌+◌, ◌<◌, ◌≤◌, List, length, Option, Some, None, Ok, Err}
use Rattle.form_reader.specs.Reading.{Bad, Reader}
use Rattle.form_reader.specs.ReadingNumbers.{unsigned_at}
use Rattle.refusal_place.specs.declared.kind.SectionKind.{SectionKind}
use Rattle.refusal_place.specs.declared.place.Fault.{Fault}
use Rattle.refusal_place.specs.Kinds.{OfEntries}
use Rattle.refusal_place.specs.Places.{HasContents}
use Rattle.refusal_place.specs.Found.{ReadsUpTo, IsEntriesFault}
use Rattle.refusal_place.specs.Entries.{HasEntry, HasNoEntry, SectionHasNoEntry}

-- ---- in a list of entries

-- the entry is below the count, and those before it are read
pub record IsEntryBelowCount {A : Type 0} (read : Reader A) (contents : List ℕ) (entry offset : ℕ) : Type 0 where
  pub count : ℕ
  pub rest : List ℕ
  pub up_to : ReadsUpTo read contents entry offset count rest
  pub listed : entry < count

-- the count is not above the entry
pub record ReadsFewer (contents : List ℕ) (entry : ℕ) : Type 0 where
  pub count : ℕ
  pub rest : List ℕ
  pub counts : unsigned_at 32 contents ≡ Ok (count, rest)
  pub few : count ≤ entry

-- an entry before it is not read
pub record IsAfterUnread {A : Type 0} (read : Reader A) (contents : List ℕ) (entry : ℕ) : Type 0 where
  pub fault : Fault
  pub earlier : ℕ
  pub offset : ℕ
  pub unread : IsEntriesFault read contents fault (Some earlier) offset
  pub is_earlier : earlier < entry

abbrev pub IsEntryFound : {A : Type 0} → Reader A → List ℕ → ℕ → Option ℕ → Type 0
IsEntryFound read contents entry (Some offset) = IsEntryBelowCount read contents entry offset
IsEntryFound read contents entry None = (unsigned_at 32 contents ≡ Err Bad) ⊎ (ReadsFewer contents entry ⊎ IsAfterUnread read contents entry)

-- ---- in the contents of a section, and in a section

abbrev pub IsEntryIn : SectionKind → List ℕ → ℕ → Option ℕ → Type 0
IsEntryIn k contents entry (Some offset) = OfEntries k (λ A part. HasEntry part contents entry offset)
IsEntryIn k contents entry None = HasNoEntry k contents entry

-- the entry begins so far behind the start of the section
pub record IsEntryOf (k : SectionKind) (rest : List ℕ) (entry distance : ℕ) : Type 0 where
  pub contents : List ℕ
  pub before : ℕ
  pub offset : ℕ
  pub has : HasContents k rest contents before
  pub entry_is : OfEntries k (λ A part. HasEntry part contents entry offset)
  pub distance_is : distance ≡ before + offset
  pub within : distance ≤ length rest

abbrev pub IsEntryInSection : SectionKind → List ℕ → ℕ → Option ℕ → Type 0
IsEntryInSection k rest entry (Some distance) = IsEntryOf k rest entry distance
IsEntryInSection k rest entry None = SectionHasNoEntry k rest entry
