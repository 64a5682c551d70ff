-- Where and why bytes are refused, by the grammar alone (core specification, 5.5).
use Rattle.std.specs.Prelude.{◌≡◌, ◌≢◌, ◌⊎◌, ◌↔◌, ℕ, ◌+◌, ◌<◌, ◌≤◌, List, ◌∷◌, ◌++◌, length, take, slice_get, Option, Some, None}
use Rattle.wasm_spec.specs.declared.operators.What.{What}
use Rattle.wasm_spec.specs.Module.{Module}
use Rattle.wasm_spec.specs.Parts.{Part, unsigned, elements}
use Rattle.wasm_spec.specs.Grammar.{name, custom_contents, section, order_of, order_after_all, header, SpellsSections, Spells}
use Rattle.wasm_spec.specs.Interfaces.{HasNoInterfaceTypes}
use Rattle.refusal_place.specs.declared.kind.SectionKind.{SectionKind}
use Rattle.refusal_place.specs.declared.kind.SectionKind.TheVariants as kind
use Rattle.refusal_place.specs.declared.place.Fault.{Fault}
use Rattle.refusal_place.specs.declared.place.Fault.TheVariants as fault
use Rattle.refusal_place.specs.declared.place.Place.{Place}
use Rattle.refusal_place.specs.Kinds.{id_of, kind_of, OfEntries}

-- no beginning of the bytes spells the part
abbrev pub IsUnspelled : {A : Type 0} → Part A → List ℕ → Type 0
IsUnspelled {A} part bytes = (front rest : List ℕ) (x : A) → bytes ≡ front ++ rest → ¬ part.spells front x

-- the part is not spelled, or reading stops in it
abbrev pub IsUnread : {A : Type 0} → Part A → List ℕ → Type 0
IsUnread part bytes = IsUnspelled part bytes ⊎ ((w : What) × part.stops bytes w)

-- the bytes spell a module without custom sections of interface types
abbrev pub AreAModule : List ℕ → Type 0
AreAModule bytes = (m : Module) × Spells bytes m × HasNoInterfaceTypes m

-- no input that begins with so many of the bytes is such a module
abbrev pub Decides : List ℕ → ℕ → Type 0
Decides bytes count = (more : List ℕ) → ¬ AreAModule (take count bytes ++ more)

-- ---- in the header

-- the byte is the first that is not as in the header, or the input ends there
pub record IsInHeader (bytes : List ℕ) (p : Place) : Type 0 where
  pub same : take p.byte bytes ≡ take p.byte header
  pub within : p.byte ≤ length bytes
  pub other : slice_get bytes p.byte ≢ slice_get header p.byte
  pub no_section : (p.section ≡ None) × (p.section_start ≡ 0) × (p.entry ≡ None)

-- ---- in the contents of a section

-- the count, `entry` entries, and then what is left
pub record ListsEntries {A : Type 0} (part : Part A) (contents : List ℕ) (entry offset count : ℕ) (rest : List ℕ) : Type 0 where
  pub number : List ℕ
  pub front : List ℕ
  pub entries : List A
  pub parts : contents ≡ number ++ (front ++ rest)
  pub counts : (unsigned 32).spells number count
  pub before : (elements part entry).spells front entries
  pub offset_is : offset ≡ length number + length front

-- the first entry that is not spelled, and where it begins
pub record IsFirstUnspelled {A : Type 0} (part : Part A) (contents : List ℕ) (entry offset : ℕ) : Type 0 where
  pub count : ℕ
  pub rest : List ℕ
  pub lists : ListsEntries part contents entry offset count rest
  pub listed : entry < count
  pub unspelled : IsUnspelled part rest

-- the first entry in which reading stops, and where it begins
pub record IsFirstStopped {A : Type 0} (w : What) (part : Part A) (contents : List ℕ) (entry offset : ℕ) : Type 0 where
  pub count : ℕ
  pub rest : List ℕ
  pub lists : ListsEntries part contents entry offset count rest
  pub listed : entry < count
  pub stops : part.stops rest w

-- all entries are spelled, and bytes are left
pub record HasRemainder {A : Type 0} (part : Part A) (contents : List ℕ) (offset : ℕ) : Type 0 where
  pub count : ℕ
  pub rest : List ℕ
  pub lists : ListsEntries part contents count offset count rest
  pub left : 0 < length rest

-- what is wrong with the contents of a section of a kind: which entry, and how far from their start
abbrev pub IsInContents : Fault → SectionKind → List ℕ → Option ℕ → ℕ → Type 0
IsInContents fault.Count k contents None offset = OfEntries k (λ A part. IsUnspelled (unsigned 32) contents) × (offset ≡ 0)
IsInContents fault.Entry k contents (Some entry) offset = OfEntries k (λ A part. IsFirstUnspelled part contents entry offset)
IsInContents (fault.Unsupported w) k contents (Some entry) offset = OfEntries k (λ A part. IsFirstStopped w part contents entry offset)
IsInContents fault.Remainder k contents None offset = OfEntries k (λ A part. HasRemainder part contents offset)
IsInContents fault.Number kind.Start contents None offset = ((n : ℕ) → ¬ (unsigned 32).spells contents n) × (offset ≡ 0)
IsInContents fault.Number kind.DataCount contents None offset = ((n : ℕ) → ¬ (unsigned 32).spells contents n) × (offset ≡ 0)
IsInContents fault.Name kind.Custom contents None offset = IsUnspelled name contents × (offset ≡ 0)
IsInContents (fault.Unsupported w) kind.Custom contents None offset = custom_contents.stops contents w × (offset ≡ 0)
IsInContents _ _ _ _ _ = ⊥

-- ---- inputs that end too early

-- an input of so many bytes ends inside the header, inside the five bytes that a size may have, or
-- inside a section
abbrev pub EndsInside : Fault → (size byte : ℕ) → Type 0
EndsInside fault.Header size byte = byte ≡ size
EndsInside fault.SectionSize size byte = size < byte + 5
EndsInside (fault.SectionEnd end) size byte = size < end
EndsInside _ size byte = ⊥

-- it is left open whether the input begins a module exactly where it ends inside one of these
abbrev pub IsOpenWhereItEnds : ℕ → Place → Type 0
IsOpenWhereItEnds size p = (p.decided ≡ None) ↔ EndsInside p.fault size p.byte

-- ---- in a section, whose bytes from its id on are `rest`

-- the id and the size, and then the contents that the size counts
pub record HasContents (k : SectionKind) (rest contents : List ℕ) (offset : ℕ) : Type 0 where
  pub number : List ℕ
  pub later : List ℕ
  pub parts : rest ≡ id_of k ∷ (number ++ (contents ++ later))
  pub size_is : (unsigned 32).spells number (length contents)
  pub offset_is : offset ≡ 1 + length number

-- no section has this id
pub record IsUnknown (id : ℕ) (rest : List ℕ) (p : Place) : Type 0 where
  pub after : List ℕ
  pub parts : rest ≡ id ∷ after
  pub unknown : kind_of id ≡ None
  pub no_section : (p.section ≡ None) × (p.entry ≡ None)
  pub byte_is : p.byte ≡ p.section_start

-- a section of this order may not be here
pub record IsMisplaced (next : ℕ) (rest : List ℕ) (p : Place) : Type 0 where
  pub section : SectionKind
  pub after : List ℕ
  pub order : ℕ
  pub parts : rest ≡ id_of section ∷ after
  pub order_is : order_of (id_of section) ≡ Some order
  pub early : order < next
  pub section_is : (p.section ≡ Some section) × (p.entry ≡ None)
  pub byte_is : p.byte ≡ p.section_start

-- the size of the section is no number
pub record HasNoSize (rest : List ℕ) (p : Place) : Type 0 where
  pub section : SectionKind
  pub after : List ℕ
  pub parts : rest ≡ id_of section ∷ after
  pub unspelled : IsUnspelled (unsigned 32) after
  pub section_is : (p.section ≡ Some section) × (p.entry ≡ None)
  pub byte_is : p.byte ≡ p.section_start + 1

-- the input ends before the section does
pub record IsCut (end : ℕ) (rest : List ℕ) (p : Place) : Type 0 where
  pub section : SectionKind
  pub number : List ℕ
  pub after : List ℕ
  pub size : ℕ
  pub parts : rest ≡ id_of section ∷ (number ++ after)
  pub size_is : (unsigned 32).spells number size
  pub short : length after < size
  pub end_is : end ≡ p.section_start + 1 + length number + size
  pub section_is : (p.section ≡ Some section) × (p.entry ≡ None)
  pub byte_is : p.byte ≡ p.section_start + length rest

-- the contents of the section are wrong
pub record HasWrongContents (rest : List ℕ) (p : Place) : Type 0 where
  pub section : SectionKind
  pub contents : List ℕ
  pub start : ℕ
  pub offset : ℕ
  pub has : HasContents section rest contents start
  pub wrong : IsInContents p.fault section contents p.entry offset
  pub section_is : p.section ≡ Some section
  pub byte_is : p.byte ≡ p.section_start + start + offset

-- what is wrong with a section, where the next one has at least the order `next`
abbrev pub IsWrong : Fault → ℕ → List ℕ → Place → Type 0
IsWrong fault.Header next rest p = ⊥
IsWrong (fault.UnknownSection id) next rest p = IsUnknown id rest p
IsWrong fault.SectionOrder next rest p = IsMisplaced next rest p
IsWrong fault.SectionSize next rest p = HasNoSize rest p
IsWrong (fault.SectionEnd end) next rest p = IsCut end rest p
IsWrong fault.Number next rest p = HasWrongContents rest p
IsWrong fault.Name next rest p = HasWrongContents rest p
IsWrong fault.Count next rest p = HasWrongContents rest p
IsWrong fault.Entry next rest p = HasWrongContents rest p
IsWrong fault.Remainder next rest p = HasWrongContents rest p
IsWrong (fault.Unsupported w) next rest p = HasWrongContents rest p

-- ---- in the module

-- the header and whole sections, and then what is left, from an offset on
pub record ComesTo (bytes : List ℕ) (start next : ℕ) (rest : List ℕ) : Type 0 where
  pub before : Module
  pub front : List ℕ
  pub parts : bytes ≡ header ++ (front ++ rest)
  pub are_sections : SpellsSections 8 0 front before
  pub start_is : start ≡ 8 + length front
  pub next_is : next ≡ order_after_all 0 before

-- the first section that is not read, and what is wrong with it
pub record IsInSection (bytes : List ℕ) (p : Place) : Type 0 where
  pub next : ℕ
  pub rest : List ℕ
  pub comes_to : ComesTo bytes p.section_start next rest
  pub unread : IsUnread (section p.section_start next) rest
  pub wrong : IsWrong p.fault next rest p

-- where and why the bytes are refused
pub record IsPlaceOf (bytes : List ℕ) (p : Place) : Type 0 where
  pub place : ((p.fault ≡ fault.Header) × IsInHeader bytes p) ⊎ IsInSection bytes p
  pub within : p.byte ≤ length bytes
