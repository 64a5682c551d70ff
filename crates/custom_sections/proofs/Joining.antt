-- Names of subsections one after the other, as a loop reads them.
use Rattle.std.proofs.Common.{◌≡◌, ℕ, suc, ◌-◌, ◌+◌, ◌<◌, ◌≤◌, List, length, Bool, true, false, Option, Some, None, refl, append_assoc, arith}
use Rattle.std.specs.Option.{option_or}
use Rattle.std.specs.Result.{result_ok}
use Rattle.std.proofs.lemmas.List.{append-nil}
use Rattle.custom_sections.specs.NameLists.{NameLists, no_names, joined}
use Rattle.custom_sections.specs.NameReading.{subsection, sized_subsection_at, subsections_before, names_of_section}
use Rattle.form_reader.proofs.Taken.{was_read, was_not_read}

pub same_lists : (a b : Option (List ℕ)) (f g : List (ℕ × List ℕ)) (l m : List (ℕ × List (ℕ × List ℕ))) → a ≡ b → f ≡ g → l ≡ m
    → (let r : NameLists = record { module_name = a; functions = f; locals = l } in r) ≡ record { module_name = b; functions = g; locals = m }
same_lists a b f g l m d e h = cc

or_regroups : (a b c : Option (List ℕ)) → option_or c (option_or b a) ≡ option_or (option_or c b) a
or_regroups a b c = grind arith

pub joined_regroups : (a b c : NameLists) → joined (joined a b) c ≡ joined a (joined b c)
joined_regroups a b c = grind (arith, same_lists, or_regroups, append_assoc)

pub joined_none : (a : NameLists) → joined a no_names ≡ a
joined_none a = same_lists _ _ _ _ _ _ refl (append-nil a.functions) (append-nil a.locals)

module _ (locals : Bool) where
  -- what so many subsections add to the names before
  abbrev pub still_named : NameLists → ℕ → List ℕ → NameLists
  still_named names n bytes = joined names (subsections_before locals n bytes)

  pub at_start : (bytes : List ℕ) → still_named no_names (length bytes - 0) bytes ≡ names_of_section locals bytes
  unfolding names_of_section
  at_start bytes = grind (arith, same_lists)

  more_is : (names : NameLists) (n : ℕ) (bytes : List ℕ) (id : ℕ) (contents rest : List ℕ)
      → Some ((id, contents), rest) ≡ result_ok (sized_subsection_at bytes) → (subsection locals id contents).1 ≡ true
      → still_named names (suc n) bytes ≡ still_named (joined names (subsection locals id contents).0) n rest
  unfolding subsections_before
  more_is names n bytes id contents rest e filled = grind (arith, was_read, joined_regroups)

  pub more : (names : NameLists) (count i : ℕ) (bytes : List ℕ) (id : ℕ) (contents rest : List ℕ) (total : NameLists) → i < count
      → Some ((id, contents), rest) ≡ result_ok (sized_subsection_at bytes) → (subsection locals id contents).1 ≡ true
      → still_named names (count - i) bytes ≡ total → still_named (joined names (subsection locals id contents).0) (count - (i + 1)) rest ≡ total
  more names count i bytes id contents rest total lt e filled h = grind (arith, more_is names (count - (i + 1)) bytes id contents rest e filled)

  ends_is : (names : NameLists) (n : ℕ) (bytes : List ℕ) (id : ℕ) (contents rest : List ℕ)
      → Some ((id, contents), rest) ≡ result_ok (sized_subsection_at bytes) → (subsection locals id contents).1 ≡ false
      → still_named names (suc n) bytes ≡ joined names (subsection locals id contents).0
  unfolding subsections_before
  ends_is names n bytes id contents rest e filled = grind (arith, was_read)

  -- a subsection with a fault in it is the last
  pub ends : (names : NameLists) (count i : ℕ) (bytes : List ℕ) (id : ℕ) (contents rest : List ℕ) (total : NameLists) → i < count
      → Some ((id, contents), rest) ≡ result_ok (sized_subsection_at bytes) → (subsection locals id contents).1 ≡ false
      → still_named names (count - i) bytes ≡ total → joined names (subsection locals id contents).0 ≡ total
  ends names count i bytes id contents rest total lt e filled h = grind (arith, ends_is names (count - (i + 1)) bytes id contents rest e filled)

  none_is : (names : NameLists) (n : ℕ) (bytes : List ℕ) → None ≡ result_ok (sized_subsection_at bytes) → still_named names (suc n) bytes ≡ names
  unfolding subsections_before
  none_is names n bytes e = grind (arith, was_not_read, joined_none)

  -- where there is no subsection, there is no more
  pub none : (names : NameLists) (count i : ℕ) (bytes : List ℕ) (total : NameLists) → i < count
      → None ≡ result_ok (sized_subsection_at bytes) → still_named names (count - i) bytes ≡ total → names ≡ total
  none names count i bytes total lt e h = grind (arith, none_is names (count - (i + 1)) bytes e)

  pub is_done : (names : NameLists) (count i : ℕ) (bytes : List ℕ) (total : NameLists) → count ≤ i
      → still_named names (count - i) bytes ≡ total → names ≡ total
  unfolding subsections_before
  is_done names count i bytes total le h = grind (arith, joined_none)
