-- What the search for a section of a kind finds.
use Rattle.std.specs.Prelude.{◌≡◌, ◌≢◌, ◌⊎◌, ℕ, ◌+◌, ◌<◌, ◌≤◌, ◌^◌, List, [], ◌∷◌, ◌++◌, length, drop, All, Option, Some, None}
use Rattle.wasm_spec.specs.Grammar.{header, section, section_id}
use Rattle.refusal_place.specs.declared.kind.SectionKind.{SectionKind}
use Rattle.refusal_place.specs.declared.seek.FoundContents.{FoundContents}
use Rattle.refusal_place.specs.Kinds.{id_of}
use Rattle.refusal_place.specs.Places.{IsUnread, HasContents, ComesTo}
use Rattle.refusal_place.specs.Contents.{SectionHasNoContents}

-- the first section of the kind begins here
pub record IsSectionAt (bytes : List ℕ) (k : SectionKind) (start : ℕ) : Type 0 where
  pub next : ℕ
  pub comes_to : ComesTo bytes start next (id_of k ∷ drop (start + 1) bytes)
  pub none_before : All (λ p. section_id p ≢ id_of k) comes_to.before
  pub within : start < length bytes
  pub short : length bytes < 2 ^ 30

-- no section of the kind is read
pub record IsUnfound (bytes : List ℕ) (k : SectionKind) : Type 0 where
  pub start : ℕ
  pub next : ℕ
  pub rest : List ℕ
  pub comes_to : ComesTo bytes start next rest
  pub none_before : All (λ p. section_id p ≢ id_of k) comes_to.before
  pub why : (rest ≡ []) ⊎ IsUnread (section start next) rest

abbrev pub IsSectionFound : List ℕ → SectionKind → Option ℕ → Type 0
IsSectionFound bytes k (Some start) = IsSectionAt bytes k start
IsSectionFound bytes k None = (2 ^ 30 ≤ length bytes) ⊎ (((rest : List ℕ) → ¬ (bytes ≡ header ++ rest)) ⊎ IsUnfound bytes k)

-- ---- the contents of a section

-- these are the contents, so far behind the start of the section
pub record AreTheContents (k : SectionKind) (rest contents : List ℕ) (before : ℕ) : Type 0 where
  pub has : HasContents k rest contents before
  pub within : before + length contents ≤ length rest

abbrev pub AreContentsIn : SectionKind → List ℕ → Option FoundContents → Type 0
AreContentsIn k rest (Some found) = AreTheContents k rest found.contents.now found.before
AreContentsIn k rest None = SectionHasNoContents k rest
