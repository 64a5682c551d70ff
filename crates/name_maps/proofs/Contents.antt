-- The contents of a subsection, by its id.
use Rattle.std.proofs.Common.{◌≡◌, ℕ, ◌≤◌, ◌<◌, List, [], ◌∷◌, ◌++◌, Bool, true, false, Option, Some, None, refl, sym, ap, ◌∙◌}
use Rattle.std.specs.Result.{result_ok}
use Rattle.std.proofs.lemmas.List.{append-nil}
use Rattle.std.proofs.lemmas.Bool.{ne_eqb, le-leb, lt-leb}
use Rattle.form_reader.specs.Reading.{whole}
use Rattle.form_reader.specs.ReadingNumbers.{name_at}
use Rattle.custom_sections.specs.NameReading.{names_before, locals_before, vector_before, sized_subsection_at}
use Rattle.form_reader.proofs.Taken.{was_read, was_not_read}
use Rattle.name_maps.specs.Entries.{NameMapEntry, module_entry}
use Rattle.name_maps.specs.NameMaps.{is_indirect}
use Rattle.name_maps.specs.Reading.{left_of, contents_read, module_read, map_read, indirect_read, sized_read, subsection_before}

module _ (id : ℕ) (contents : List ℕ) where
  pub module_is : id ≡ 0 → contents_read id contents ≡ module_read id (whole name_at contents)
  unfolding contents_read
  module_is e = rw e refl

  pub indirect_is : ¬ (id ≡ 0) → is_indirect id ≡ true → contents_read id contents ≡ indirect_read id (vector_before locals_before contents)
  unfolding contents_read
  indirect_is other e = rw (ne_eqb id 0 other, e) refl

  pub map_is : ¬ (id ≡ 0) → is_indirect id ≡ false → id ≤ 11 → contents_read id contents ≡ map_read id (names_before contents)
  unfolding contents_read
  map_is other e le = rw (ne_eqb id 0 other, e, le-leb id 11 le) refl

  pub skipped : ¬ (id ≡ 0) → is_indirect id ≡ false → 11 < id → contents_read id contents ≡ ([], true)
  unfolding contents_read
  skipped other e lt = rw (ne_eqb id 0 other, e, lt-leb id 11 lt) refl

  pub no_module : id ≡ 0 → None ≡ result_ok (whole name_at contents) → contents_read id contents ≡ ([], false)
  no_module e none = module_is e ∙ ap (module_read id) (was_not_read (whole name_at contents) none).1

  pub one_module : (text : List ℕ) → id ≡ 0 → Some text ≡ result_ok (whole name_at contents) → contents_read id contents ≡ (module_entry id text ∷ [], true)
  one_module text e some = module_is e ∙ ap (module_read id) (was_read text (whole name_at contents) some)

-- ---- what is added, and whether there was no fault

pub nothing_more : (now : List NameMapEntry) (read : List NameMapEntry × Bool) (filled : Bool) → read ≡ ([], filled) → now ≡ now ++ read.0
nothing_more now read filled e = sym (append-nil now) ∙ ap (λ (r : List NameMapEntry × Bool). now ++ r.0) (sym e)

pub added_as : (old now : List NameMapEntry) (read other : List NameMapEntry × Bool) → read ≡ other → now ≡ old ++ other.0 → now ≡ old ++ read.0
added_as old now read other e is = is ∙ ap (λ (r : List NameMapEntry × Bool). old ++ r.0) (sym e)

pub filled_as : (read other : List NameMapEntry × Bool) → read ≡ other → other.1 ≡ read.1
filled_as read other e = ap (λ (r : List NameMapEntry × Bool). r.1) (sym e)

-- ---- a subsection

abbrev Some_of : List NameMapEntry → Option (List ℕ) → Option (List NameMapEntry) × Option (List ℕ)
Some_of entries rest = (Some entries, rest)

pub no_subsection : (bytes : List ℕ) → None ≡ result_ok (sized_subsection_at bytes) → subsection_before bytes ≡ (None, None)
no_subsection bytes e = ap sized_read (was_not_read (sized_subsection_at bytes) e).1

pub one_subsection : (bytes : List ℕ) (id : ℕ) (contents rest : List ℕ) (filled : Bool) → Some ((id, contents), rest) ≡ result_ok (sized_subsection_at bytes)
    → (contents_read id contents).1 ≡ filled → subsection_before bytes ≡ (Some (contents_read id contents).0, left_of filled rest)
one_subsection bytes id contents rest filled e is =
    ap sized_read (was_read ((id, contents), rest) (sized_subsection_at bytes) e)
    ∙ ap (λ b. Some_of (contents_read id contents).0 (left_of b rest)) is
