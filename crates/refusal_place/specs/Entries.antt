-- Where an entry of a section begins, by the grammar alone, and why none is found.
use Rattle.std.specs.Prelude.{◌≡◌, ◌≢◌, ◌⊎◌, ℕ, ◌+◌, ◌<◌, ◌≤◌, ◌^◌, List, [], ◌∷◌, ◌++◌, length, All, Option, Some, None}
use Rattle.wasm_spec.specs.Parts.{Part, unsigned}
use Rattle.wasm_spec.specs.Grammar.{header, section, section_id}
use Rattle.refusal_place.specs.declared.kind.SectionKind.{SectionKind}
use Rattle.refusal_place.specs.declared.kind.SectionKind.TheVariants as kind
use Rattle.refusal_place.specs.declared.place.Fault.{Fault}
use Rattle.refusal_place.specs.Kinds.{id_of, OfEntries}
use Rattle.refusal_place.specs.Places.{IsUnspelled, IsUnread, ListsEntries, IsInContents, HasContents, ComesTo}

-- an entry below the count begins here, after those before it
pub record HasEntry {A : Type 0} (part : Part A) (contents : List ℕ) (entry offset : ℕ) : Type 0 where
  pub count : ℕ
  pub rest : List ℕ
  pub lists : ListsEntries part contents entry offset count rest
  pub listed : entry < count

-- an entry of a section of this kind begins at this byte
pub record IsEntryAt (bytes : List ℕ) (k : SectionKind) (entry byte : ℕ) : Type 0 where
  pub start : ℕ
  pub next : ℕ
  pub rest : List ℕ
  pub contents : List ℕ
  pub before : ℕ
  pub offset : ℕ
  pub comes_to : ComesTo bytes start next rest
  pub has : HasContents k rest contents before
  pub entry_is : OfEntries k (λ A part. HasEntry part contents entry offset)
  pub byte_is : byte ≡ start + before + offset

-- ---- why none is found

-- the count is not above the entry
pub record HasFewer (contents : List ℕ) (entry : ℕ) : Type 0 where
  pub number : List ℕ
  pub rest : List ℕ
  pub count : ℕ
  pub parts : contents ≡ number ++ rest
  pub counts : (unsigned 32).spells number count
  pub few : count ≤ entry

-- an entry before it is wrong
pub record IsAfterWrong (k : SectionKind) (contents : List ℕ) (entry : ℕ) : Type 0 where
  pub fault : Fault
  pub earlier : ℕ
  pub offset : ℕ
  pub wrong : IsInContents fault k contents (Some earlier) offset
  pub is_earlier : earlier < entry

-- sections of these kinds list nothing
abbrev pub ListsNothing : SectionKind → Type 0
ListsNothing k = (k ≡ kind.Custom) ⊎ ((k ≡ kind.Start) ⊎ (k ≡ kind.DataCount))

-- the contents of a section have no such entry, as far as they are spelled
abbrev pub HasNoEntry : SectionKind → List ℕ → ℕ → Type 0
HasNoEntry k contents entry = ListsNothing k ⊎ (IsUnspelled (unsigned 32) contents ⊎ (HasFewer contents entry ⊎ IsAfterWrong k contents entry))

-- the section ends after the input does
pub record IsShort (k : SectionKind) (rest : List ℕ) : Type 0 where
  pub number : List ℕ
  pub after : List ℕ
  pub size : ℕ
  pub parts : rest ≡ id_of k ∷ (number ++ after)
  pub size_is : (unsigned 32).spells number size
  pub short : length after < size

-- a section has no such entry
abbrev pub SectionHasNoEntry : SectionKind → List ℕ → ℕ → Type 0
SectionHasNoEntry k rest entry =
    ((after : List ℕ) × (rest ≡ id_of k ∷ after) × IsUnspelled (unsigned 32) after)
    ⊎ (IsShort k rest ⊎ ((contents : List ℕ) × (before : ℕ) × HasContents k rest contents before × HasNoEntry k contents entry))

-- the first section of the kind has no such entry, or no section of the kind is read
pub record IsUnlisted (bytes : List ℕ) (k : SectionKind) (entry : ℕ) : Type 0 where
  pub start : ℕ
  pub next : ℕ
  pub rest : List ℕ
  pub comes_to : ComesTo bytes start next rest
  pub none_before : All (λ p. section_id p ≢ id_of k) comes_to.before
  pub why : (rest ≡ []) ⊎ (IsUnread (section start next) rest ⊎ SectionHasNoEntry k rest entry)

-- the input is long, has no header, or lists no such entry
abbrev pub IsNoEntry : List ℕ → SectionKind → ℕ → Type 0
IsNoEntry bytes k entry = (2 ^ 30 ≤ length bytes) ⊎ (((rest : List ℕ) → ¬ (bytes ≡ header ++ rest)) ⊎ IsUnlisted bytes k entry)

-- the answer of a search
abbrev pub IsEntryPlace : List ℕ → SectionKind → ℕ → Option ℕ → Type 0
IsEntryPlace bytes k entry (Some byte) = IsEntryAt bytes k entry byte
IsEntryPlace bytes k entry None = IsNoEntry bytes k entry
