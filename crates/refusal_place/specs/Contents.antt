-- Where the contents of a section begin, by the grammar alone, and why none are found.
use Rattle.std.specs.Prelude.{◌≡◌, ◌≢◌, ◌⊎◌, ℕ, ◌+◌, ◌≤◌, ◌^◌, List, [], ◌∷◌, ◌++◌, length, All, Option, Some, None}
use Rattle.wasm_spec.specs.Parts.{unsigned}
use Rattle.wasm_spec.specs.Grammar.{header, section, section_id}
use Rattle.refusal_place.specs.declared.kind.SectionKind.{SectionKind}
use Rattle.refusal_place.specs.Kinds.{id_of}
use Rattle.refusal_place.specs.Places.{IsUnspelled, IsUnread, HasContents, ComesTo}
use Rattle.refusal_place.specs.Entries.{IsShort}

-- the contents of the first section of this kind begin at this byte
pub record AreContentsAt (bytes : List ℕ) (k : SectionKind) (byte : ℕ) : Type 0 where
  pub start : ℕ
  pub next : ℕ
  pub rest : List ℕ
  pub contents : List ℕ
  pub before : ℕ
  pub comes_to : ComesTo bytes start next rest
  pub none_before : All (λ p. section_id p ≢ id_of k) comes_to.before
  pub has : HasContents k rest contents before
  pub byte_is : byte ≡ start + before

-- ---- why none are found

-- the size of a section is no number, or the section ends after the input does
abbrev pub SectionHasNoContents : SectionKind → List ℕ → Type 0
SectionHasNoContents k rest = ((after : List ℕ) × (rest ≡ id_of k ∷ after) × IsUnspelled (unsigned 32) after) ⊎ IsShort k rest

-- the first section of the kind has no contents, or no section of the kind is read
pub record HasNoContents (bytes : List ℕ) (k : SectionKind) : Type 0 where
  pub start : ℕ
  pub next : ℕ
  pub rest : List ℕ
  pub comes_to : ComesTo bytes start next rest
  pub none_before : All (λ p. section_id p ≢ id_of k) comes_to.before
  pub why : (rest ≡ []) ⊎ (IsUnread (section start next) rest ⊎ SectionHasNoContents k rest)

-- the input is long, has no header, or has no such contents
abbrev pub AreNoContents : List ℕ → SectionKind → Type 0
AreNoContents bytes k = (2 ^ 30 ≤ length bytes) ⊎ (((rest : List ℕ) → ¬ (bytes ≡ header ++ rest)) ⊎ HasNoContents bytes k)

-- the answer of a search
abbrev pub IsContentsPlace : List ℕ → SectionKind → Option ℕ → Type 0
IsContentsPlace bytes k (Some byte) = AreContentsAt bytes k byte
IsContentsPlace bytes k None = AreNoContents bytes k
