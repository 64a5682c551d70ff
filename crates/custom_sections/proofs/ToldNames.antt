-- What a name section tells is what is read of it.
use Rattle.std.proofs.Common.{◌≡◌, ℕ, zero, suc, List, [], ◌∷◌, ◌++◌, Bool, true, false, cond, Option, Some, None, Ok, Err, Result, refl, sym, ap, subst, ◌∙◌}
use Rattle.std.specs.Prelude.{◌↔◌, ◌==◌, ◌&&◌, length}
use Rattle.std.proofs.lemmas.Bool.{eqb-true}
use Rattle.wasm_spec.specs.Parts.{Part, ◌>>=◌, gives, vector, choose, first_byte, all_bytes_as, sized, counted_bytes}
use Rattle.wasm_spec.specs.Grammar.{name}
use Rattle.form_reader.specs.Reading.{Fault, whole}
use Rattle.form_reader.specs.ReadingNumbers.{name_at}
use Rattle.form_reader.specs.Agrees.{whole_fills}
use Rattle.form_reader.specs.SectionRows.{name_agrees}
use Rattle.custom_sections.specs.NameLists.{NameLists, no_names, joined, joined_all}
use Rattle.custom_sections.specs.NameGrammar.{naming, name_map, local_naming, subsection_contents, name_subsection}
use Rattle.custom_sections.specs.NameReading.{naming_before, names_before, locals_before, vector_before, module_named, functions_named, locals_named, subsection, sized_subsection_at, subsection_then, subsections_before, go_on_names, names_of_section}
use Rattle.custom_sections.specs.CutNames.{tells_nothing, elements_told, vector_told, namings_told, cut_local_naming, cut_contents, cut_subsection, TellNames}
use Rattle.custom_sections.proofs.Joining.{joined_none}
use Rattle.custom_sections.proofs.NameSpellings.{naming_again, local_again, subsection_again}
use Rattle.custom_sections.proofs.OnlyTold.{Only, only_all, only_made, only_is, front_only, cut_only, vector_only, vector_spelled}
use Rattle.custom_sections.proofs.Namings.{naming_step, namings_only, local_step, filled_is, all_of, made_of, Sized, sized_front, sized_whole, sized_found}

-- ---- the contents of a subsection

module _ (contents : List ℕ) where
  abbrev Part_of : Bool → Bool → Bool → Part NameLists
  Part_of a b c =
      choose a (name >>= λ text. gives (record no_names { module_name = Some text }))
      (choose b (name_map >>= λ names. gives (record no_names { functions = names }))
      (choose c (vector local_naming >>= λ names. gives (record no_names { locals = names }))
      (all_bytes_as (λ bytes. no_names))))

  abbrev read_as : Bool → Bool → Bool → NameLists × Bool
  read_as a b c = cond a (module_named (whole name_at contents)) (cond b (functions_named (names_before contents))
      (cond c (locals_named (vector_before locals_before contents)) (no_names, true)))

  named_spelled : (r : Result (List ℕ) Fault) → whole name_at contents ≡ r → (module_named r).1 ≡ true
      → (name >>= λ text. gives (record no_names { module_name = Some text })).spells contents (module_named r).0
  named_spelled (Ok text) e t =
      made_of name (λ text. record no_names { module_name = Some text }) contents text ((whole_fills name_agrees).found contents text e)
  named_spelled (Err fault) e t = absurd cc

  contents_spelled : (a b c : Bool) → (read_as a b c).1 ≡ true → (Part_of a b c).spells contents (read_as a b c).0
  contents_spelled true b c t = named_spelled (whole name_at contents) refl t
  contents_spelled false true c t =
      let f = vector_spelled naming_before naming tells_nothing naming_again naming_step contents [] (filled_is (names_before contents).1 t) in
      made_of name_map (λ names. record no_names { functions = names }) contents (names_before contents).0
      (all_of name_map (names_before contents).0 contents f.0 f.1 f.2)
  contents_spelled false false true t =
      let f = vector_spelled locals_before local_naming cut_local_naming local_again local_step contents [] (filled_is (vector_before locals_before contents).1 t) in
      made_of (vector local_naming) (λ names. record no_names { locals = names }) contents (vector_before locals_before contents).0
      (all_of (vector local_naming) (vector_before locals_before contents).0 contents f.0 f.1 f.2)
  contents_spelled false false false t = refl

  abbrev Cut_of : Bool → Bool → Part NameLists
  Cut_of b c =
      choose b (namings_told >>= λ names. gives (record no_names { functions = names }))
      (choose c (vector_told local_naming cut_local_naming >>= λ names. gives (record no_names { locals = names }))
      (all_bytes_as (λ bytes. no_names)))

  -- what a subsection with a fault tells
  abbrev cut_as : Bool → Bool → NameLists
  cut_as b c = cond b (record no_names { functions = (names_before contents).0 })
      (cond c (record no_names { locals = (vector_before locals_before contents).0 }) no_names)

  cut_told : (b c : Bool) → Only (Cut_of b c) contents (cut_as b c)
  cut_told true c = only_made namings_told (λ names. record no_names { functions = names }) contents _ (namings_only contents)
  cut_told false true = only_made (vector_told local_naming cut_local_naming) (λ names. record no_names { locals = names }) contents _
      (vector_only locals_before local_naming cut_local_naming local_again local_step contents)
  cut_told false false = only_all (λ bytes. no_names) contents

  named_none : (r : Result (List ℕ) Fault) → (module_named r).1 ≡ false → no_names ≡ (module_named r).0
  named_none (Ok text) e = absurd cc
  named_none (Err fault) e = refl

  -- the name of the module has no part before a fault
  cut_is : (a b c : Bool) → (a ≡ true → b ≡ false) → (a ≡ true → c ≡ false) → (read_as a b c).1 ≡ false → cut_as b c ≡ (read_as a b c).0
  cut_is true true c not_b not_c t = let h : true ≡ false = not_b refl in absurd cc
  cut_is true false true not_b not_c t = let h : true ≡ false = not_c refl in absurd cc
  cut_is true false false not_b not_c t = named_none (whole name_at contents) t
  cut_is false true c not_b not_c t = refl
  cut_is false false true not_b not_c t = refl
  cut_is false false false not_b not_c t = absurd cc

-- ---- subsections

not_one : (id : ℕ) → (id == 0) ≡ true → (id == 1) ≡ false
not_one id e = rw (eqb-true id 0 e) refl

not_two : (id : ℕ) (locals : Bool) → (id == 0) ≡ true → ((id == 2) && locals) ≡ false
not_two id locals e = rw (eqb-true id 0 e) refl

module _ (locals : Bool) where
  abbrev whole_named : NameLists × Bool → List ℕ → Option (NameLists × List ℕ)
  whole_named (names, true) rest = Some (names, rest)
  whole_named (names, false) rest = None

  abbrev whole_sized : Result Sized Fault → Option (NameLists × List ℕ)
  whole_sized (Ok x) = whole_named (subsection locals x.0.0 x.0.1) x.1
  whole_sized (Err fault) = None

  -- a subsection with no fault, as it is read
  abbrev whole_at : List ℕ → Option (NameLists × List ℕ)
  whole_at bytes = whole_sized (sized_subsection_at bytes)

  whole_again : (front : List ℕ) (names : NameLists) (rest : List ℕ) → (name_subsection locals).spells front names
      → whole_at (front ++ rest) ≡ Some (names, rest)
  whole_again front names rest s =
      let f = sized_front (subsection_contents locals) front names rest s in
      ap whole_sized f.2 ∙ ap (λ (x : NameLists × Bool). whole_named x rest) (subsection_again locals f.0 f.1 names f.3)

  -- what is told of a subsection with a fault
  abbrev cut_names : ℕ → List ℕ → NameLists
  cut_names id contents = cut_as contents (id == 1) ((id == 2) && locals)

  abbrev cut_sized : Result Sized Fault → Option (NameLists × List ℕ)
  cut_sized (Ok x) = Some (cut_names x.0.0 x.0.1, x.1)
  cut_sized (Err fault) = None

  abbrev cut_at : List ℕ → Option (NameLists × List ℕ)
  cut_at bytes = cut_sized (sized_subsection_at bytes)

  cut_again : (front : List ℕ) (names : NameLists) (rest : List ℕ) → (first_byte (λ id. sized (cut_contents locals id))).spells front names
      → cut_at (front ++ rest) ≡ Some (names, rest)
  cut_again front names rest s =
      let f = sized_front (cut_contents locals) front names rest s in
      let told = (cut_told f.1 (f.0 == 1) ((f.0 == 2) && locals)).only names f.3 in
      ap cut_sized f.2 ∙ ap (λ (x : NameLists). let r : Option (NameLists × List ℕ) = Some (x, rest) in r) (sym told)

  -- the subsections that are read are those that are told
  abbrev Told : ℕ → List ℕ → NameLists → Type 0
  Told n bytes names = (all : List NameLists) × Only (elements_told (name_subsection locals) (cut_subsection locals) n) bytes all × (joined_all all ≡ names)

  no_subsection : (n : ℕ) (bytes : List ℕ) (fault : Fault) → sized_subsection_at bytes ≡ Err fault → Told (suc n) bytes no_names
  no_subsection n bytes fault e =
      let cut = cut_only cut_at (first_byte (λ id. sized (cut_contents locals id))) cut_again (λ names. all_bytes_as (λ rest. names ∷ [])) tells_nothing
      bytes [] (ap cut_sized e) (only_all (λ bytes. []) bytes) in (
        [],
        cut_only whole_at (name_subsection locals) whole_again
            (λ names. elements_told (name_subsection locals) (cut_subsection locals) n >>= λ all. gives (names ∷ all)) (cut_subsection locals) bytes [] (ap whole_sized e) cut,
        refl,
      )

  module _ (n : ℕ) (bytes : List ℕ) (id : ℕ) (contents rest : List ℕ) (e : sized_subsection_at bytes ≡ Ok ((id, contents), rest)) where
    front_is : (front : List ℕ) × (bytes ≡ id ∷ front ++ rest) × counted_bytes.spells front contents
    front_is = sized_found bytes id contents rest e

    whole_subsection : (later : NameLists) → (subsection locals id contents).1 ≡ true → Told n rest later
        → Told (suc n) bytes (joined (subsection locals id contents).0 later)
    unfolding subsection
    whole_subsection later filled told =
        let names = (subsection locals id contents).0 in
        let f = front_is in
        let is = sized_whole (subsection_contents locals) id f.0 contents names f.2
        (contents_spelled contents (id == 0) (id == 1) ((id == 2) && locals) filled) in (
          names ∷ told.0,
          front_only whole_at (name_subsection locals) whole_again
              (λ names. elements_told (name_subsection locals) (cut_subsection locals) n >>= λ all. gives (names ∷ all)) (cut_subsection locals)
              bytes (id ∷ f.0) rest names (names ∷ told.0) f.1 is
              (only_made (elements_told (name_subsection locals) (cut_subsection locals) n) (λ all. names ∷ all) rest told.0 told.1),
          ap (joined names) told.2,
        )

    last_subsection : (subsection locals id contents).1 ≡ false → Told (suc n) bytes (subsection locals id contents).0
    unfolding subsection
    last_subsection faulty =
        let b = id == 1 in
        let c = (id == 2) && locals in
        let f = front_is in
        let names = cut_as contents b c in
        let is = sized_whole (cut_contents locals) id f.0 contents names f.2 (cut_told contents b c).spelled in
        let cut = front_only cut_at (first_byte (λ id. sized (cut_contents locals id))) cut_again (λ names. all_bytes_as (λ rest. names ∷ [])) tells_nothing
        bytes (id ∷ f.0) rest names (names ∷ []) f.1 is (only_all (λ rest. names ∷ []) rest) in
        let none : whole_at bytes ≡ None = ap whole_sized e ∙ ap (λ t. whole_named ((subsection locals id contents).0, t) rest) faulty in (
          names ∷ [],
          cut_only whole_at (name_subsection locals) whole_again
              (λ names. elements_told (name_subsection locals) (cut_subsection locals) n >>= λ all. gives (names ∷ all)) (cut_subsection locals) bytes (names ∷ []) none cut,
          joined_none names ∙ cut_is contents (id == 0) b c (not_one id) (not_two id locals) faulty,
        )

  subsections_are : (n : ℕ) (bytes : List ℕ) → Told n bytes (subsections_before locals n bytes)
  unfolding subsections_before
  subsections_are zero bytes = ([], only_all (λ bytes. []) bytes, refl)
  subsections_are (suc n) bytes = by (subsections_are n) (sized_subsection_at bytes) refl where
    by : ((rest : List ℕ) → Told n rest (subsections_before locals n rest)) → (r : Result Sized Fault) → sized_subsection_at bytes ≡ r
        → Told (suc n) bytes (subsection_then locals r (subsections_before locals n))
    by more (Err fault) e = no_subsection n bytes fault e
    by more (Ok x) e = after (subsection locals x.0.0 x.0.1).1 refl where
      after : (t : Bool) → (subsection locals x.0.0 x.0.1).1 ≡ t
          → Told (suc n) bytes (go_on_names (subsection locals x.0.0 x.0.1).0 (subsection locals x.0.0 x.0.1).1 (subsections_before locals n x.1))
      after true t = rw t (whole_subsection n bytes x.0.0 x.0.1 x.1 e (subsections_before locals n x.1) t (more x.1))
      after false t = rw t (last_subsection n bytes x.0.0 x.0.1 x.1 e t)

  abbrev named_in : ℕ → Part NameLists
  named_in n = elements_told (name_subsection locals) (cut_subsection locals) n >>= λ all. gives (joined_all all)

  -- the names that are read are told, and no others
  names_are : (contents : List ℕ) → Only (named_in (length contents)) contents (names_of_section locals contents)
  unfolding names_of_section
  names_are contents =
      let told = subsections_are (length contents) contents in
      only_is (named_in (length contents)) contents (joined_all told.0) _ told.2
      (only_made (elements_told (name_subsection locals) (cut_subsection locals) (length contents)) joined_all contents told.0 told.1)

pub told_are_read : (locals : Bool) (contents : List ℕ) (names : NameLists)
    → TellNames locals contents names ↔ (names_of_section locals contents ≡ names)
told_are_read locals contents names = (
  λ told. sym ((names_are locals contents).only names told),
  λ read. subst (TellNames locals contents) read (names_are locals contents).spelled,
)
