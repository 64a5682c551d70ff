-- Where an entry of a section begins.
use Rattle.std.proofs.Common.{◌≡◌, ℕ, ◌+◌, ◌-◌, ◌<◌, ◌≤◌, List, length, Option, Some, None, Result, Ok, Err, refl, subst, arith, inl, inr}
use Rattle.std.specs.Prelude.{IfOk}
use Rattle.wasm_spec.specs.Parts.{Part}
use Rattle.form_reader.specs.Reading.{Reader}
use Rattle.form_reader.specs.Agrees.{Agrees}
use Rattle.form_reader.specs.NumberLaws.{unsigned_agrees}
use Rattle.refusal_place.specs.declared.kind.SectionKind.{SectionKind}
use Rattle.refusal_place.specs.declared.seek.FoundContents.{FoundContents}
use Rattle.refusal_place.specs.declared.place.Fault.{Fault}
use Rattle.refusal_place.specs.Kinds.{OfEntries}
use Rattle.refusal_place.specs.Found.{IsEntryRead, ReadsUpTo}
use Rattle.refusal_place.specs.Entries.{HasEntry}
use Rattle.refusal_place.specs.EntryFound.{IsEntryFound, IsEntryIn, IsEntryInSection}
use Rattle.refusal_place.specs.Sought.{AreContentsIn}
use Rattle.refusal_place.proofs.ContentLaws.{lists, no_number, wrong_entries}
use Rattle.refusal_place.proofs.EntryLaws.{unread_entry}
use Rattle.refusal_place.proofs.Wrong.{lists_within, of_entries}

-- ---- in a list

module _ {A : Type 0} (read : Reader A) where
  -- an entry before is not read
  pub after_unread : (contents : List ℕ) (entry earlier count : ℕ) (rest new : List ℕ) (f : Fault) → IsEntryRead read rest new (Some f)
      → earlier < entry → entry < count → ReadsUpTo read contents earlier (length contents - length rest) count rest
      → IsEntryFound read contents entry None
  after_unread contents entry earlier count rest new f r l m u = inr (inr (record {
    fault = f;
    earlier = earlier;
    offset = length contents - length rest;
    unread = unread_entry read contents earlier count rest new f r (omega (arith, l, m)) u;
    is_earlier = l;
  }))

module _ {A : Type 0} (read : Reader A) (g : Part A) (a : Agrees read g) (k : SectionKind)
    (of : (P : (B : Type 0) → Part B → Type 0) → P A g → OfEntries k P) where
  entry_in : (contents : List ℕ) (entry : ℕ) (o : Option ℕ) → IsEntryFound read contents entry o → IsEntryIn k contents entry o
  entry_in contents entry (Some offset) u = of (λ B p. HasEntry p contents entry offset) (record {
    count = u.count;
    rest = u.rest;
    lists = lists read g a contents entry offset u.count u.rest u.up_to;
    listed = u.listed;
  })
  entry_in contents entry None (inl e) = inr (inl (no_number contents e))
  entry_in contents entry None (inr (inl u)) =
      let n = (unsigned_agrees 32).found contents u.count u.rest u.counts in
      inr (inr (inl (record { number = n.0; rest = u.rest; count = u.count; parts = n.1; counts = n.2; few = u.few })))
  entry_in contents entry None (inr (inr u)) = inr (inr (inr (record {
    fault = u.fault;
    earlier = u.earlier;
    offset = u.offset;
    wrong = wrong_entries read g a k of contents u.fault (Some u.earlier) u.offset u.unread;
    is_earlier = u.is_earlier;
  })))

  -- the same of what a function returned
  pub found_entry : {E : Type 0} (l : SectionKind) (contents : List ℕ) (entry : ℕ) (r : Result (Option ℕ) E) → k ≡ l
      → IfOk r (IsEntryFound read contents entry) → IfOk r (IsEntryIn l contents entry)
  found_entry l contents entry (Ok o) same u = subst (λ m. IsEntryIn m contents entry o) same (entry_in contents entry o u)
  found_entry l contents entry (Err e) same u = tt

-- ---- in a section

pub entry_within : (k : SectionKind) (contents : List ℕ) (entry offset : ℕ) → IsEntryIn k contents entry (Some offset) → offset ≤ length contents
entry_within k contents entry offset is =
    of_entries k (λ A part. HasEntry part contents entry offset) (offset ≤ length contents)
    (λ A part here. lists_within part contents entry offset here.count here.rest here.lists) is

-- the entry is in the contents that were found
pub entry_of : (k : SectionKind) (rest : List ℕ) (found : FoundContents) (entry offset : ℕ) → AreContentsIn k rest (Some found)
    → IsEntryIn k found.contents.now entry (Some offset) → IsEntryInSection k rest entry (Some (found.before + offset))
entry_of k rest found entry offset a is = record {
  contents = found.contents.now;
  before = found.before;
  offset = offset;
  has = a.has;
  entry_is = is;
  distance_is = refl;
  within = omega (arith, a.within, entry_within k found.contents.now entry offset is);
}

pub none_of : (k : SectionKind) (rest : List ℕ) (found : FoundContents) (entry : ℕ) → AreContentsIn k rest (Some found)
    → IsEntryIn k found.contents.now entry None → IsEntryInSection k rest entry None
none_of k rest found entry a none = inr (inr (found.contents.now, found.before, a.has, none))

-- no contents were found
pub no_contents : (k : SectionKind) (rest : List ℕ) (entry : ℕ) → AreContentsIn k rest None → IsEntryInSection k rest entry None
no_contents k rest entry (inl unspelled) = inl unspelled
no_contents k rest entry (inr short) = inr (inl short)
