-- What a loop adds, one element after another up to a fault.
use Rattle.std.proofs.Common.{◌≡◌, ℕ, ◌-◌, ◌+◌, ◌<◌, ◌≤◌, List, [], ◌∷◌, ◌++◌, map, Option, Some, None, sym, ap, ◌∙◌, append_assoc, arith}
use Rattle.std.specs.Result.{result_ok}
use Rattle.std.proofs.lemmas.List.{append-nil, map-append, flat_map_more}
use Rattle.form_reader.specs.ReadingNumbers.{unsigned_at}
use Rattle.custom_sections.specs.NameReading.{Partly, in_front, elements_before, vector_before}
use Rattle.custom_sections.proofs.Before as before
use Rattle.custom_sections.proofs.Before.{still, ended}
use Rattle.name_maps.specs.declared.entry.NameEntry.{NameEntry}
use Rattle.name_maps.specs.Entries.{NameMapEntry, entry_of, entry_in, indirect_entries, all_entries}

-- the entries of what was read are added, and so much is left
pub record Adds {A : Type 0} (part : Partly A) (g : List A → List NameMapEntry) (old now : List NameMapEntry) (n : ℕ) (rest : List ℕ)
    (total : List A × Option (List ℕ)) : Type 0 where
  pub read : List A
  pub entries : now ≡ old ++ g read
  pub left : still part read n rest ≡ in_front [] total

-- what was added in all, and the bytes after it
pub record Added {A : Type 0} (g : List A → List NameMapEntry) (old now : List NameMapEntry) (rest : Option (List ℕ)) (total : List A × Option (List ℕ)) : Type 0 where
  pub entries : now ≡ old ++ g total.0
  pub left : rest ≡ total.1

module _ {A : Type 0} (part : Partly A) (g : List A → List NameMapEntry) (old : List NameMapEntry) where
  all_added : (now : List NameMapEntry) (read : List A) (rest : Option (List ℕ)) (total : List A × Option (List ℕ)) → now ≡ old ++ g read
      → ended read rest ≡ in_front [] total → Added g old now rest total
  all_added now read rest total entries e = record {
    entries = entries ∙ ap (λ (r : List A × Option (List ℕ)). old ++ g r.0) e;
    left = ap (λ (r : List A × Option (List ℕ)). r.1) e;
  }

  module _ (nil : g [] ≡ []) where
    pub none_added : old ≡ old ++ g []
    none_added = sym (append-nil old) ∙ ap (λ (l : List NameMapEntry). old ++ l) (sym nil)

    -- a vector without a count
    pub no_count : (bytes : List ℕ) → None ≡ result_ok (unsigned_at 32 bytes) → Added g old old None (vector_before part bytes)
    no_count bytes e =
        let none = before.no_count part bytes e in
        record {
          entries = none_added ∙ ap (λ (r : List A × Option (List ℕ)). old ++ g r.0) (sym none);
          left = ap (λ (r : List A × Option (List ℕ)). r.1) (sym none);
        }

    pub at_start : (count : ℕ) (rest bytes : List ℕ) → Some (count, rest) ≡ result_ok (unsigned_at 32 bytes)
        → Adds part g old old (count - 0) rest (vector_before part bytes)
    at_start count rest bytes e = record { read = []; entries = none_added; left = before.at_start part [] count rest bytes e }

    pub begins : (n : ℕ) (bytes : List ℕ) → Adds part g old old (n - 0) bytes (elements_before part n bytes)
    begins n bytes =
        let e : n - 0 ≡ n = omega arith in
        record { read = []; entries = none_added; left = ap (λ (k : ℕ). still part [] k bytes) e }

  module _ (piece : A → List NameMapEntry) (push : (xs : List A) (x : A) → g (xs ++ x ∷ []) ≡ g xs ++ piece x) where
    pushed : (now : List NameMapEntry) (read : List A) (x : A) → now ≡ old ++ g read → now ++ piece x ≡ old ++ g (read ++ x ∷ [])
    pushed now read x e =
        ap (λ (l : List NameMapEntry). l ++ piece x) e ∙ append_assoc old (g read) (piece x) ∙ ap (λ (l : List NameMapEntry). old ++ l) (sym (push read x))

    pub more : (now : List NameMapEntry) (count i : ℕ) (bytes : List ℕ) (x : A) (rest : List ℕ) (total : List A × Option (List ℕ)) → i < count
        → part bytes ≡ (Some x, Some rest) → Adds part g old now (count - i) bytes total
        → Adds part g old (now ++ piece x) (count - (i + 1)) rest total
    more now count i bytes x rest total lt e a = record {
      read = a.read ++ x ∷ [];
      entries = pushed now a.read x a.entries;
      left = before.more part a.read count i bytes x rest _ lt e a.left;
    }

    -- an element with a fault in it is the last
    pub ends : (now : List NameMapEntry) (count i : ℕ) (bytes : List ℕ) (x : A) (total : List A × Option (List ℕ)) → i < count
        → part bytes ≡ (Some x, None) → Adds part g old now (count - i) bytes total → Added g old (now ++ piece x) None total
    ends now count i bytes x total lt e a =
        all_added (now ++ piece x) (a.read ++ x ∷ []) None total (pushed now a.read x a.entries) (before.ends part a.read count i bytes (Some x) _ lt e a.left)

  -- nothing is read of the element with the fault
  pub fails : (now : List NameMapEntry) (count i : ℕ) (bytes : List ℕ) (total : List A × Option (List ℕ)) → i < count
      → part bytes ≡ (None, None) → Adds part g old now (count - i) bytes total → Added g old now None total
  fails now count i bytes total lt e a = all_added now a.read None total a.entries (before.fails part a.read count i bytes _ lt e a.left)

  pub is_done : (now : List NameMapEntry) (count i : ℕ) (bytes : List ℕ) (total : List A × Option (List ℕ)) → count ≤ i
      → Adds part g old now (count - i) bytes total → Added g old now (Some bytes) total
  is_done now count i bytes total le a = all_added now a.read (Some bytes) total a.entries (before.is_done part a.read count i bytes _ le a.left)

-- ---- the entries of one more element

pub map_push : (id : ℕ) (outer : Option ℕ) (xs : List (ℕ × List ℕ)) (x : ℕ × List ℕ)
    → map (entry_in id outer) (xs ++ x ∷ []) ≡ map (entry_in id outer) xs ++ (entry_in id outer x ∷ [])
map_push id outer xs x = map-append (entry_in id outer) xs (x ∷ [])

pub indirect_push : (id : ℕ) (xs : List (ℕ × List (ℕ × List ℕ))) (x : ℕ × List (ℕ × List ℕ))
    → indirect_entries id (xs ++ x ∷ []) ≡ indirect_entries id xs ++ map (entry_in id (Some x.0)) x.1
indirect_push id xs x = sym (flat_map_more (λ m. map (entry_in id (Some m.0)) m.1) [] xs x)

pub all_push : (xs : List (List NameMapEntry)) (x : List NameMapEntry) → all_entries (xs ++ x ∷ []) ≡ all_entries xs ++ x
all_push xs x = sym (flat_map_more (λ entries. entries) [] xs x)

pub entry_pushed : (before after : List NameEntry) (e : NameEntry) (x : NameMapEntry) → after ≡ before ++ e ∷ [] → entry_of e ≡ x
    → map entry_of after ≡ map entry_of before ++ (x ∷ [])
entry_pushed before after e x is same =
    ap (map entry_of) is ∙ map-append entry_of before (e ∷ []) ∙ ap (λ (y : NameMapEntry). map entry_of before ++ (y ∷ [])) same
