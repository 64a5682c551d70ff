-- What the parts of the search find, in terms of how bytes are read.
use Rattle.std.specs.Prelude.{◌≡◌, ◌≢◌, ℕ, ◌+◌, ◌-◌, ◌<◌, ◌≤◌, ◌==◌, List, ◌∷◌, ◌++◌, length, take, drop, slice_get, Option, Some, None, Ok, Err, Bool, false, nat_lt, nat_le, IfSome, if◌then◌else◌}
use Rattle.wasm_spec.specs.Module.{Payload}
use Rattle.wasm_spec.specs.Grammar.{header, next_order}
use Rattle.form_reader.specs.Reading.{Fault as ReadFault, Bad, Stops, Reader, whole, elements_at, fill_after, choose_at}
use Rattle.form_reader.specs.ReadingNumbers.{unsigned_at, vector_at, name_at, sized_at}
use Rattle.form_reader.specs.TypeRows.{group, memory_type, tag_type}
use Rattle.form_reader.specs.SectionRows.{section, section_contents, custom_after_at, import_entry, table_entry, global_entry, export_entry, element_segment, body, data_segment}
use Rattle.refusal_place.specs.declared.kind.SectionKind.{SectionKind}
use Rattle.refusal_place.specs.declared.kind.SectionKind.TheVariants as kind
use Rattle.refusal_place.specs.declared.place.Fault.{Fault}
use Rattle.refusal_place.specs.declared.place.Fault.TheVariants as fault
use Rattle.refusal_place.specs.declared.place.Place.{Place}
use Rattle.refusal_place.specs.Kinds.{id_of}
use Rattle.refusal_place.specs.Places.{IsOpenWhereItEnds, IsWrong}

-- the bytes before are those of the header, and this one is another, or is not there
pub record IsOther (bytes : List ℕ) (offset : ℕ) : Type 0 where
  pub same : take offset bytes ≡ take offset header
  pub within : offset ≤ length bytes
  pub other : slice_get bytes offset ≢ slice_get header offset
  pub short : offset < length header

-- the place of such a byte
abbrev pub place_in_header : List ℕ → ℕ → Place
place_in_header bytes offset = record {
  section = None;
  section_start = 0;
  entry = None;
  byte = offset;
  fault = fault.Header;
  decided = if nat_lt offset (length bytes) then Some (offset + 1) else None;
}

-- a section of so many bytes is read, or none
abbrev pub IsPassed : (start next after : ℕ) → List ℕ → Option ℕ → Type 0
IsPassed start next after rest (Some count) =
    (p : Payload) × ((section start next).read rest ≡ Ok (p, drop count rest)) × (after ≡ next_order next p) × (0 < count) × (count ≤ length rest)
IsPassed start next after rest None = ((f : ReadFault) × ((section start next).read rest ≡ Err f)) × (after ≡ next)

-- a number of 32 bits is read, or none is there
abbrev pub IsNumberRead : List ℕ → List ℕ → Option ℕ → Type 0
IsNumberRead old new (Some count) = unsigned_at 32 old ≡ Ok (count, new)
IsNumberRead old new None = unsigned_at 32 old ≡ Err Bad

-- an entry is read, or it is not, and why
abbrev pub IsEntryRead : {A : Type 0} → Reader A → List ℕ → List ℕ → Option Fault → Type 0
IsEntryRead {A} read old new None = (x : A) × (read old ≡ Ok (x, new))
IsEntryRead read old new (Some fault.Entry) = read old ≡ Err Bad
IsEntryRead read old new (Some (fault.Unsupported w)) = read old ≡ Err (Stops w)
IsEntryRead read old new (Some _) = ⊥

-- what is read takes its bytes from the front
pub record Shortens {A : Type 0} (read : Reader A) : Type 0 where
  pub shorter : (bytes : List ℕ) (x : A) (rest : List ℕ) → read bytes ≡ Ok (x, rest) → length rest ≤ length bytes

-- the count of a list, and the entries before this one
pub record ReadsUpTo {A : Type 0} (read : Reader A) (contents : List ℕ) (entry offset count : ℕ) (rest : List ℕ) : Type 0 where
  pub first : List ℕ
  pub entries : List A
  pub counts : unsigned_at 32 contents ≡ Ok (count, first)
  pub before : elements_at read entry first ≡ Ok (entries, rest)
  pub offset_is : offset + length rest ≡ length contents

-- the entry is the first that is not read
pub record IsFirstUnread {A : Type 0} (why : ReadFault) (read : Reader A) (contents : List ℕ) (entry offset : ℕ) : Type 0 where
  pub count : ℕ
  pub rest : List ℕ
  pub up_to : ReadsUpTo read contents entry offset count rest
  pub listed : entry < count
  pub unread : read rest ≡ Err why

-- all entries are read, and bytes are left
pub record LeavesBytes {A : Type 0} (read : Reader A) (contents : List ℕ) (offset : ℕ) : Type 0 where
  pub count : ℕ
  pub rest : List ℕ
  pub up_to : ReadsUpTo read contents count offset count rest
  pub left : 0 < length rest

-- what is wrong with a list of entries
abbrev pub IsEntriesFault : {A : Type 0} → Reader A → List ℕ → Fault → Option ℕ → ℕ → Type 0
IsEntriesFault read contents fault.Count None offset = (unsigned_at 32 contents ≡ Err Bad) × (offset ≡ 0)
IsEntriesFault read contents fault.Entry (Some entry) offset = IsFirstUnread Bad read contents entry offset
IsEntriesFault read contents (fault.Unsupported w) (Some entry) offset = IsFirstUnread (Stops w) read contents entry offset
IsEntriesFault read contents fault.Remainder None offset = LeavesBytes read contents offset
IsEntriesFault read contents _ _ offset = ⊥

-- the bytes are not read as a list of entries
abbrev pub IsNoList : {A : Type 0} → Reader A → List ℕ → Type 0
IsNoList read contents = (f : ReadFault) × (whole (vector_at read) contents ≡ Err f)

-- the bytes are not one number
abbrev pub IsNoNumber : List ℕ → Type 0
IsNoNumber contents = (f : ReadFault) × (whole (unsigned_at 32) contents ≡ Err f)

-- the contents are not read as those of a section of this kind
abbrev pub AreUnread : SectionKind → List ℕ → Type 0
AreUnread kind.Custom contents = (f : ReadFault) × (fill_after name_at custom_after_at contents ≡ Err f)
AreUnread kind.Start contents = IsNoNumber contents
AreUnread kind.DataCount contents = IsNoNumber contents
AreUnread kind.Type contents = IsNoList group.read contents
AreUnread kind.Import contents = IsNoList import_entry.read contents
AreUnread kind.Function contents = IsNoList (unsigned_at 32) contents
AreUnread kind.Table contents = IsNoList table_entry.read contents
AreUnread kind.Memory contents = IsNoList memory_type.read contents
AreUnread kind.Tag contents = IsNoList tag_type.read contents
AreUnread kind.Global contents = IsNoList global_entry.read contents
AreUnread kind.Export contents = IsNoList export_entry.read contents
AreUnread kind.Element contents = IsNoList element_segment.read contents
AreUnread kind.Code contents = IsNoList body.read contents
AreUnread kind.Data contents = IsNoList data_segment.read contents

-- ---- a section that is not read

-- what follows the id of a section; the id is at `place`
abbrev pub after_id_at : (place id : ℕ) → Reader Payload
after_id_at place id = choose_at (id == 0) (sized_at (fill_after name_at custom_after_at)) (section_contents (place + 1) id).read

-- whether a section of this order may not be where the next one has at least the order `next`
abbrev pub misplaced : ℕ → Option ℕ → Bool
misplaced next None = false
misplaced next (Some order) = nat_lt order next

-- a place at the id of a section
abbrev pub place_of_id : Option SectionKind → ℕ → Fault → Place
place_of_id section start f = record {
  section = section;
  section_start = start;
  entry = None;
  byte = start;
  fault = f;
  decided = Some (start + 1);
}

-- a place at the size of a section, which is no number; a number has five bytes at most
abbrev pub place_of_size : SectionKind → List ℕ → ℕ → Place
place_of_size k sized start = record {
  section = Some k;
  section_start = start;
  entry = None;
  byte = start + 1;
  fault = fault.SectionSize;
  decided = if nat_le 5 (length sized) then Some (start + 6) else None;
}

-- a place at the end of the input, before the end of a section
abbrev pub place_of_cut : SectionKind → (start input_end section_end : ℕ) → Place
place_of_cut k start input_end section_end = record {
  section = Some k;
  section_start = start;
  entry = None;
  byte = input_end;
  fault = fault.SectionEnd section_end;
  decided = None;
}

-- no section is read, whatever follows the bytes up to this offset of the input
abbrev pub IsDecidedBy : (start next : ℕ) → List ℕ → ℕ → Type 0
IsDecidedBy start next rest end =
    (start < end) × ((more : List ℕ) → (f : ReadFault) × ((section start next).read (take (end - start) rest ++ more) ≡ Err f))

-- nothing is read after the id, whatever follows the bytes up to this offset of the input
abbrev pub IsDecidedAfter : (start id : ℕ) → List ℕ → ℕ → Type 0
IsDecidedAfter start id sized end =
    (start < end) × ((more : List ℕ) → (f : ReadFault) × (after_id_at start id (take (end - (start + 1)) sized ++ more) ≡ Err f))

-- what is wrong after the id of a section
pub record IsAfterId (start : ℕ) (k : SectionKind) (sized : List ℕ) (p : Place) : Type 0 where
  pub starts : p.section_start ≡ start
  pub wrong : (next : ℕ) → IsWrong p.fault next (id_of k ∷ sized) p
  pub within : p.byte ≤ start + (1 + length sized)
  pub decided : IfSome p.decided (IsDecidedAfter start (id_of k) sized)
  pub early : IsOpenWhereItEnds (start + (1 + length sized)) p
