-- What the names of a subsection add.
use Rattle.std.proofs.Common.{◌≡◌, ℕ, ◌≤◌, List, ◌++◌, Bool, true, false, Option, Some, None, refl, sym, ap, ◌∙◌, arith, eqb}
use Rattle.std.specs.Result.{result_ok}
use Rattle.std.proofs.lemmas.List.{append-nil}
use Rattle.std.proofs.lemmas.Bool.{ne_eqb}
use Rattle.form_reader.specs.Reading.{whole}
use Rattle.form_reader.specs.ReadingNumbers.{name_at}
use Rattle.custom_sections.specs.NameLists.{NameLists, no_names, joined}
use Rattle.custom_sections.specs.NameReading.{module_named, functions_named, locals_named, names_before, locals_before, vector_before, subsection}
use Rattle.form_reader.proofs.Taken.{was_read, was_not_read}
use Rattle.custom_sections.proofs.Joining.{same_lists, joined_none}

module _ (locals : Bool) (contents : List ℕ) where
  module_is : subsection locals 0 contents ≡ module_named (whole name_at contents)
  unfolding subsection
  module_is = refl

  pub no_module : None ≡ result_ok (whole name_at contents) → subsection locals 0 contents ≡ (no_names, false)
  no_module e = module_is ∙ ap module_named (was_not_read (whole name_at contents) e).1

  pub one_module : (text : List ℕ) → Some text ≡ result_ok (whole name_at contents)
      → subsection locals 0 contents ≡ (record no_names { module_name = Some text }, true)
  one_module text e = module_is ∙ ap module_named (was_read text (whole name_at contents) e)

  pub functions_are : subsection locals 1 contents ≡ functions_named (names_before contents)
  unfolding subsection
  functions_are = refl

  pub locals_are : locals ≡ true → subsection locals 2 contents ≡ locals_named (vector_before locals_before contents)
  unfolding subsection
  locals_are e = rw e refl

  pub locals_skipped : locals ≡ false → subsection locals 2 contents ≡ (no_names, true)
  unfolding subsection
  locals_skipped e = rw e refl

  pub skipped : (id : ℕ) → 3 ≤ id → subsection locals id contents ≡ (no_names, true)
  unfolding subsection
  skipped id le = grind (arith, eqb, ne_eqb)

-- ---- what is added

pub nothing : (names : NameLists) (read : NameLists × Bool) (filled : Bool) → read ≡ (no_names, filled) → names ≡ joined names read.0
nothing names read filled e = sym (joined_none names) ∙ ap (λ (r : NameLists × Bool). joined names r.0) (sym e)

pub with_module : (names : NameLists) (text : List ℕ) (read : NameLists × Bool) → read ≡ (record no_names { module_name = Some text }, true)
    → record names { module_name = Some text } ≡ joined names read.0
with_module names text read e = grind (arith, same_lists, append-nil)

pub with_functions : (names : NameLists) (functions : List (ℕ × List ℕ)) (part : List (ℕ × List ℕ) × Option (List ℕ)) (read : NameLists × Bool)
    → functions ≡ names.functions ++ part.0 → read ≡ functions_named part → record names { functions = functions } ≡ joined names read.0
with_functions names functions part read f e = grind (arith, same_lists, append-nil)

pub with_locals : (names : NameLists) (locals : List (ℕ × List (ℕ × List ℕ))) (part : List (ℕ × List (ℕ × List ℕ)) × Option (List ℕ))
    (read : NameLists × Bool) → locals ≡ names.locals ++ part.0 → read ≡ locals_named part → record names { locals = locals } ≡ joined names read.0
with_locals names locals part read l e = grind (arith, same_lists, append-nil)
