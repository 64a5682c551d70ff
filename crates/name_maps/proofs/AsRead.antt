-- The entries that a name section tells are those that are read of it.
use Rattle.std.proofs.Common.{◌≡◌, ℕ, List, [], ◌∷◌, ◌++◌, Bool, true, false, cond, Option, Some, None, Ok, Err, Result, refl, sym, ap, ◌∙◌, inl, inr}
use Rattle.std.specs.Prelude.{◌⊎◌, ◌==◌, length}
use Rattle.std.specs.Result.{result_ok}
use Rattle.std.proofs.lemmas.List.{append-nil}
use Rattle.wasm_spec.specs.Parts.{Part, ◌>>=◌, gives, vector, choose, first_byte, all_bytes_as, sized, counted_bytes}
use Rattle.wasm_spec.specs.Grammar.{name}
use Rattle.form_reader.specs.Reading.{Fault, whole}
use Rattle.form_reader.specs.ReadingNumbers.{name_at}
use Rattle.form_reader.specs.Agrees.{whole_fills}
use Rattle.form_reader.specs.SectionRows.{name_agrees}
use Rattle.custom_sections.specs.NameGrammar.{naming, name_map, local_naming}
use Rattle.custom_sections.specs.NameReading.{Partly, elements_before, naming_before, names_before, locals_before, vector_before, sized_subsection_at}
use Rattle.custom_sections.specs.CutNames.{tells_nothing, elements_told, vector_told, namings_told, cut_local_naming}
use Rattle.custom_sections.proofs.NameSpellings.{made, ReadsAgain, vector_again, naming_again, local_again}
use Rattle.custom_sections.proofs.OnlyTold.{Only, only_all, only_made, only_is, Whole, Cut, front_only, cut_only, elements_only, vector_only, vector_spelled}
use Rattle.custom_sections.proofs.Namings.{naming_step, namings_only, local_step, filled_is, all_of, made_of, Sized, sized_front, sized_whole, sized_found}
use Rattle.name_maps.specs.Entries.{NameMapEntry, map_entries, indirect_entries, module_entry, all_entries}
use Rattle.name_maps.specs.NameMaps.{is_indirect, has_map, subsection_contents, subsection, cut_contents, cut_subsection, subsections_told, name_section}
use Rattle.name_maps.specs.Reading.{left_of, module_read, map_read, indirect_read, contents_read, subsection_and, sized_read, subsection_before, subsections_before, entries_behind, section_entries}

-- ---- the contents of a subsection

vector_fills : {A : Type 0} (p : Partly A) (g : Part A) → ReadsAgain p g → (bytes : List ℕ) (xs : List A) → (vector g).spells bytes xs
    → vector_before p bytes ≡ (xs, Some [])
vector_fills p g again bytes xs s = ap (vector_before p) (sym (append-nil bytes)) ∙ vector_again p g again bytes xs [] s

abbrev with_true : List NameMapEntry → List NameMapEntry × Bool
with_true entries = (entries, true)

module _ (id : ℕ) (contents : List ℕ) where
  abbrev Part_of : Bool → Bool → Bool → Part (List NameMapEntry)
  Part_of a b c =
      choose a (name >>= λ text. gives (module_entry id text ∷ []))
      (choose b (vector local_naming >>= λ maps. gives (indirect_entries id maps))
      (choose c (name_map >>= λ names. gives (map_entries id names))
      (all_bytes_as (λ bytes. []))))

  abbrev read_as : Bool → Bool → Bool → List NameMapEntry × Bool
  read_as a b c = cond a (module_read id (whole name_at contents)) (cond b (indirect_read id (vector_before locals_before contents))
      (cond c (map_read id (names_before contents)) ([], true)))

  module_spelled : (r : Result (List ℕ) Fault) → whole name_at contents ≡ r → (module_read id r).1 ≡ true
      → (name >>= λ text. gives (module_entry id text ∷ [])).spells contents (module_read id r).0
  module_spelled (Ok text) e t = made_of name (λ text. module_entry id text ∷ []) contents text ((whole_fills name_agrees).found contents text e)
  module_spelled (Err fault) e t = absurd cc

  contents_spelled : (a b c : Bool) → (read_as a b c).1 ≡ true → (Part_of a b c).spells contents (read_as a b c).0
  contents_spelled true b c t = module_spelled (whole name_at contents) refl t
  contents_spelled false true c t =
      let f = vector_spelled locals_before local_naming cut_local_naming local_again local_step contents [] (filled_is (vector_before locals_before contents).1 t) in
      made_of (vector local_naming) (indirect_entries id) contents (vector_before locals_before contents).0
      (all_of (vector local_naming) (vector_before locals_before contents).0 contents f.0 f.1 f.2)
  contents_spelled false false true t =
      let f = vector_spelled naming_before naming tells_nothing naming_again naming_step contents [] (filled_is (names_before contents).1 t) in
      made_of name_map (map_entries id) contents (names_before contents).0
      (all_of name_map (names_before contents).0 contents f.0 f.1 f.2)
  contents_spelled false false false t = refl

  contents_again : (a b c : Bool) (x : List NameMapEntry) → (Part_of a b c).spells contents x → read_as a b c ≡ (x, true)
  contents_again true b c x t =
      let m = made name (λ text. module_entry id text ∷ []) contents x t in
      ap (module_read id) ((whole_fills name_agrees).again contents m.0 m.1) ∙ ap with_true (sym m.2)
  contents_again false true c x t =
      let m = made (vector local_naming) (indirect_entries id) contents x t in
      ap (indirect_read id) (vector_fills locals_before local_naming local_again contents m.0 m.1) ∙ ap with_true (sym m.2)
  contents_again false false true x t =
      let m = made name_map (map_entries id) contents x t in
      ap (map_read id) (vector_fills naming_before naming naming_again contents m.0 m.1) ∙ ap with_true (sym m.2)
  contents_again false false false x t = ap with_true (sym t)

  abbrev Cut_of : Bool → Bool → Bool → Part (List NameMapEntry)
  Cut_of a b c =
      choose a tells_nothing
      (choose b (vector_told local_naming cut_local_naming >>= λ maps. gives (indirect_entries id maps))
      (choose c (namings_told >>= λ names. gives (map_entries id names)) tells_nothing))

  -- what a subsection with a fault tells
  abbrev cut_as : Bool → Bool → Bool → List NameMapEntry
  cut_as a b c = cond a [] (cond b (indirect_entries id (vector_before locals_before contents).0) (cond c (map_entries id (names_before contents).0) []))

  cut_told : (a b c : Bool) → Only (Cut_of a b c) contents (cut_as a b c)
  cut_told true b c = only_all (λ bytes. []) contents
  cut_told false true c = only_made (vector_told local_naming cut_local_naming) (indirect_entries id) contents _
      (vector_only locals_before local_naming cut_local_naming local_again local_step contents)
  cut_told false false true = only_made namings_told (map_entries id) contents _ (namings_only contents)
  cut_told false false false = only_all (λ bytes. []) contents

  -- the name of the module has no part before a fault
  module_none : (r : Result (List ℕ) Fault) → (module_read id r).1 ≡ false → [] ≡ (module_read id r).0
  module_none (Ok text) e = absurd cc
  module_none (Err fault) e = refl

  cut_is : (a b c : Bool) → (read_as a b c).1 ≡ false → cut_as a b c ≡ (read_as a b c).0
  cut_is true b c t = module_none (whole name_at contents) t
  cut_is false true c t = refl
  cut_is false false true t = refl
  cut_is false false false t = absurd cc

-- ---- subsections

abbrev Some_of : List NameMapEntry → Option (List ℕ) → Option (List NameMapEntry) × Option (List ℕ)
Some_of entries rest = (Some entries, rest)

read_again : (id : ℕ) (contents : List ℕ) (x : List NameMapEntry) → (subsection_contents id).spells contents x → contents_read id contents ≡ (x, true)
unfolding contents_read
read_again id contents x s = contents_again id contents (id == 0) (is_indirect id) (has_map id) x s

read_spelled : (id : ℕ) (contents : List ℕ) → (contents_read id contents).1 ≡ true
    → (subsection_contents id).spells contents (contents_read id contents).0
unfolding contents_read
read_spelled id contents t = contents_spelled id contents (id == 0) (is_indirect id) (has_map id) t

read_cut : (id : ℕ) (contents : List ℕ) → (contents_read id contents).1 ≡ false
    → cut_as id contents (id == 0) (is_indirect id) (has_map id) ≡ (contents_read id contents).0
unfolding contents_read
read_cut id contents t = cut_is id contents (id == 0) (is_indirect id) (has_map id) t

subsection_again : ReadsAgain subsection_before subsection
subsection_again front x rest s =
    let f = sized_front subsection_contents front x rest s in
    ap sized_read f.2 ∙ ap (λ (r : List NameMapEntry × Bool). subsection_and r rest) (read_again f.0 f.1 x f.3)

-- what is told of a subsection with a fault
abbrev cut_entries : ℕ → List ℕ → List NameMapEntry
cut_entries id contents = cut_as id contents (id == 0) (is_indirect id) (has_map id)

abbrev cut_sized : Result Sized Fault → Option (List NameMapEntry × List ℕ)
cut_sized (Ok x) = Some (cut_entries x.0.0 x.0.1, x.1)
cut_sized (Err fault) = None

abbrev cut_at : List ℕ → Option (List NameMapEntry × List ℕ)
cut_at bytes = cut_sized (sized_subsection_at bytes)

abbrev cut_part : Part (List NameMapEntry)
cut_part = first_byte (λ id. sized (cut_contents id))

cut_again : (front : List ℕ) (x : List NameMapEntry) (rest : List ℕ) → cut_part.spells front x → cut_at (front ++ rest) ≡ Some (x, rest)
cut_again front x rest s =
    let f = sized_front cut_contents front x rest s in
    let told = (cut_told f.0 f.1 (f.0 == 0) (is_indirect f.0) (has_map f.0)).only x f.3 in
    ap cut_sized f.2 ∙ ap (λ (y : List NameMapEntry). let r : Option (List NameMapEntry × List ℕ) = Some (y, rest) in r) (sym told)

abbrev Next : List ℕ → Type 0
Next bytes = Whole subsection_before subsection bytes ⊎ Cut subsection_before cut_subsection bytes

module _ (bytes : List ℕ) (id : ℕ) (contents rest : List ℕ) (e : sized_subsection_at bytes ≡ Ok ((id, contents), rest)) where
  front_is : (front : List ℕ) × (bytes ≡ id ∷ front ++ rest) × counted_bytes.spells front contents
  front_is = sized_found bytes id contents rest e

  abbrev entries : List NameMapEntry
  entries = (contents_read id contents).0

  whole_next : (contents_read id contents).1 ≡ true → Whole subsection_before subsection bytes
  whole_next t = record {
    value = entries;
    front = id ∷ front_is.0;
    rest = rest;
    parts = front_is.1;
    is = sized_whole subsection_contents id front_is.0 contents entries front_is.2 (read_spelled id contents t);
    reads = ap sized_read e ∙ ap (λ b. Some_of entries (left_of b rest)) t;
  }

  cut_next : (contents_read id contents).1 ≡ false → Cut subsection_before cut_subsection bytes
  cut_next t =
      let cut = cut_entries id contents in
      let is = sized_whole cut_contents id front_is.0 contents cut front_is.2 (cut_told id contents (id == 0) (is_indirect id) (has_map id)).spelled in
      record {
        value = Some entries;
        reads = ap sized_read e ∙ ap (λ b. Some_of entries (left_of b rest)) t;
        told = only_is cut_subsection bytes (cut ∷ []) (entries ∷ []) (ap (λ (l : List NameMapEntry). l ∷ []) (read_cut id contents t))
            (front_only cut_at cut_part cut_again (λ entries. all_bytes_as (λ rest. entries ∷ [])) tells_nothing
            bytes (id ∷ front_is.0) rest cut (cut ∷ []) front_is.1 is (only_all (λ rest. cut ∷ []) rest));
      }

step : (bytes : List ℕ) → Next bytes
step bytes = by (sized_subsection_at bytes) refl where
  after : (x : Sized) → sized_subsection_at bytes ≡ Ok x → (t : Bool) → (contents_read x.0.0 x.0.1).1 ≡ t → Next bytes
  after x e true t = inl (whole_next bytes x.0.0 x.0.1 x.1 e t)
  after x e false t = inr (cut_next bytes x.0.0 x.0.1 x.1 e t)

  by : (r : Result Sized Fault) → sized_subsection_at bytes ≡ r → Next bytes
  by (Ok x) e = after x e (contents_read x.0.0 x.0.1).1 refl
  by (Err fault) e = inr (record {
    value = None;
    reads = ap sized_read e;
    told = cut_only cut_at cut_part cut_again (λ entries. all_bytes_as (λ rest. entries ∷ [])) tells_nothing bytes [] (ap cut_sized e) (only_all (λ bytes. []) bytes);
  })

-- the subsections that are read are those that are told
pub subsections_only : (n : ℕ) (bytes : List ℕ) → Only (subsections_told n) bytes (subsections_before n bytes)
subsections_only n bytes =
    only_made (elements_told subsection cut_subsection n) all_entries bytes (elements_before subsection_before n bytes).0
    (elements_only subsection_before subsection cut_subsection subsection_again step n bytes)

-- ---- a name section

abbrev title_at : List ℕ → Option (List ℕ × List ℕ)
title_at bytes = result_ok (name_at bytes)

title_again : (front title rest : List ℕ) → name.spells front title → title_at (front ++ rest) ≡ Some (title, rest)
title_again front title rest s = ap result_ok (name_agrees.again front title rest s)

-- its entries are told where it begins with a name
pub section_only : (contents front title rest : List ℕ) → contents ≡ front ++ rest → name.spells front title
    → Only (name_section (length contents)) contents (section_entries contents)
unfolding section_entries
section_only contents front title rest parts s =
    let n = length contents in
    let both = front_only title_at name title_again (λ title. subsections_told n) tells_nothing contents front rest title (subsections_before n rest)
    parts s (subsections_only n rest) in
    let read = ap name_at parts ∙ name_agrees.again front title rest s in
    only_is (name_section n) contents (subsections_before n rest) (entries_behind n (name_at contents)) (ap (entries_behind n) (sym read)) (record {
      spelled = record { value = title; front = front; back = rest; parts = parts; is_first = s; is_second = (subsections_only n rest).spelled };
      only = λ y t. both.only y (inl t);
    })
