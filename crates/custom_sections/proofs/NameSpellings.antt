-- What the grammar spells is read completely.
use Rattle.std.proofs.Common.{◌≡◌, ℕ, zero, suc, ◌≤◌, List, [], ◌∷◌, ◌++◌, length, Bool, true, false, cond, Option, Some, Ok, refl, sym, ap, ◌∙◌, arith, append_assoc, length-append}
use Rattle.std.specs.Prelude.{◌==◌, ◌&&◌}
use Rattle.std.proofs.lemmas.List.{append-nil}
use Rattle.wasm_spec.specs.Parts.{Part, ◌>>=◌, Joined, gives, choose, elements, vector, all_bytes_as, sized}
use Rattle.wasm_spec.specs.Grammar.{name}
use Rattle.form_reader.specs.Reading.{whole}
use Rattle.form_reader.specs.ReadingNumbers.{unsigned_at, counted_bytes_at, name_at}
use Rattle.form_reader.specs.Agrees.{Agrees, gives_agrees, then_agrees, whole_fills}
use Rattle.form_reader.specs.NumberLaws.{unsigned_agrees, counted_bytes_agree}
use Rattle.form_reader.specs.SectionRows.{name_agrees}
use Rattle.custom_sections.specs.NameGrammar.{naming, name_map, local_naming, subsection_contents, SpellsSubsections}
use Rattle.custom_sections.specs.NameLists.{joined_all, NameLists, no_names, joined}
use Rattle.custom_sections.specs.NameReading.{Partly, elements_before, vector_before, naming_at, naming_before, names_before, one_or_none, locals_before, locals_behind, of_function, module_named, functions_named, locals_named, subsection, sized_subsection_at, subsections_before, names_of_section}

-- the part of which a value is made
pub made : {A B : Type 0} (g : Part A) (f : A → B) (bytes : List ℕ) (y : B) → Joined g (λ x. gives (f x)) bytes y
    → (x : A) × g.spells bytes x × (y ≡ f x)
made g f bytes y t = grind (arith, append-nil)

abbrev before : {A : Type 0} → List ℕ → List A → List A × Option (List ℕ)
before rest xs = (xs, Some rest)

abbrev filled_with : NameLists → NameLists × Bool
filled_with names = (names, true)

-- ---- vectors

-- what is spelled at the front is read, whatever follows
abbrev pub ReadsAgain : {A : Type 0} → Partly A → Part A → Type 0
ReadsAgain {A} p g = (front : List ℕ) (x : A) (rest : List ℕ) → g.spells front x → p (front ++ rest) ≡ (Some x, Some rest)

module _ {A : Type 0} (p : Partly A) (g : Part A) (again : ReadsAgain p g) where
  elements_again : (n : ℕ) (front : List ℕ) (xs : List A) (rest : List ℕ) → (elements g n).spells front xs
      → elements_before p n (front ++ rest) ≡ (xs, Some rest)
  unfolding elements_before
  elements_again zero front xs rest s = rw (s.0, s.1) refl
  elements_again (suc n) front xs rest t =
      let m = made (elements g n) (λ ys. t.value ∷ ys) t.back xs t.is_second in
      let one : p (front ++ rest) ≡ (Some t.value, Some (t.back ++ rest)) =
      rw (t.parts, append_assoc) (again t.front t.value (t.back ++ rest) t.is_first) in
      rw (one, elements_again n t.back m.0 rest m.1) (ap (λ (l : List A). before rest l) (sym m.2))

  pub vector_again : (front : List ℕ) (xs : List A) (rest : List ℕ) → (vector g).spells front xs → vector_before p (front ++ rest) ≡ (xs, Some rest)
  unfolding vector_before
  vector_again front xs rest t = grind (arith, unsigned_agrees 32, elements_again t.value t.back xs rest t.is_second, append_assoc)

  vector_fills : (bytes : List ℕ) (xs : List A) → (vector g).spells bytes xs → vector_before p bytes ≡ (xs, Some [])
  vector_fills bytes xs s = ap (vector_before p) (sym (append-nil bytes)) ∙ vector_again bytes xs [] s

pub naming_agrees : Agrees naming_at naming
unfolding naming_at
naming_agrees = then_agrees (unsigned_agrees 32) (λ index. then_agrees name_agrees (λ text. gives_agrees _))

pub naming_again : ReadsAgain naming_before naming
naming_again front x rest s = ap one_or_none (naming_agrees.again front x rest s)

pub names_again : (front : List ℕ) (names : List (ℕ × List ℕ)) (rest : List ℕ) → name_map.spells front names
    → names_before (front ++ rest) ≡ (names, Some rest)
names_again = vector_again naming_before naming naming_again

pub local_again : ReadsAgain locals_before local_naming
local_again front x rest t =
    let m = made name_map (λ locals. (t.value, locals)) t.back x t.is_second in
    let function : unsigned_at 32 (front ++ rest) ≡ Ok (t.value, t.back ++ rest) =
    rw (t.parts, append_assoc) ((unsigned_agrees 32).again t.front t.value (t.back ++ rest) t.is_first) in
    ap locals_behind function ∙ ap (of_function t.value) (names_again t.back m.0 rest m.1)
    ∙ ap (λ (y : ℕ × List (ℕ × List ℕ)). let r : Option (ℕ × List (ℕ × List ℕ)) × Option (List ℕ) = (Some y, Some rest) in r) (sym m.2)

-- ---- subsections

module _ (contents : List ℕ) (names : NameLists) where
  module_again : (name >>= λ text. gives (record no_names { module_name = Some text })).spells contents names
      → module_named (whole name_at contents) ≡ (names, true)
  module_again t =
      let m = made name (λ text. record no_names { module_name = Some text }) contents names t in
      ap module_named ((whole_fills name_agrees).again contents m.0 m.1) ∙ ap filled_with (sym m.2)

  functions_again : (name_map >>= λ functions. gives (record no_names { functions = functions })).spells contents names
      → functions_named (names_before contents) ≡ (names, true)
  functions_again t =
      let m = made name_map (λ functions. record no_names { functions = functions }) contents names t in
      ap functions_named (vector_fills naming_before naming naming_again contents m.0 m.1) ∙ ap filled_with (sym m.2)

  locals_again : (vector local_naming >>= λ locals. gives (record no_names { locals = locals })).spells contents names
      → locals_named (vector_before locals_before contents) ≡ (names, true)
  locals_again t =
      let m = made (vector local_naming) (λ locals. record no_names { locals = locals }) contents names t in
      ap locals_named (vector_fills locals_before local_naming local_again contents m.0 m.1) ∙ ap filled_with (sym m.2)

  by_id : (a b c : Bool)
      → (choose a (name >>= λ text. gives (record no_names { module_name = Some text }))
      (choose b (name_map >>= λ functions. gives (record no_names { functions = functions }))
      (choose c (vector local_naming >>= λ locals. gives (record no_names { locals = locals }))
      (all_bytes_as (λ bytes. no_names))))).spells contents names
      → cond a (module_named (whole name_at contents)) (cond b (functions_named (names_before contents))
      (cond c (locals_named (vector_before locals_before contents)) (no_names, true))) ≡ (names, true)
  by_id true b c s = module_again s
  by_id false true c s = functions_again s
  by_id false false true s = locals_again s
  by_id false false false s = rw s refl

pub subsection_again : (locals : Bool) (id : ℕ) (contents : List ℕ) (names : NameLists) → (subsection_contents locals id).spells contents names
    → subsection locals id contents ≡ (names, true)
unfolding subsection
subsection_again locals id contents names s = by_id contents names (id == 0) (id == 1) ((id == 2) && locals) s

pub sized_again : (id : ℕ) (bytes contents rest : List ℕ) → counted_bytes_at (bytes ++ rest) ≡ Ok (contents, rest)
    → sized_subsection_at (id ∷ bytes ++ rest) ≡ Ok ((id, contents), rest)
unfolding sized_subsection_at
sized_again id bytes contents rest e = rw e refl

-- one subsection, and what is read after it
one_again : (locals : Bool) (n id : ℕ) (bytes rest : List ℕ) (names : NameLists) → (sized (subsection_contents locals id)).spells bytes names
    → subsections_before locals (suc n) (id ∷ bytes ++ rest) ≡ joined names (subsections_before locals n rest)
unfolding subsections_before
one_again locals n id bytes rest names t =
    let counted = counted_bytes_agree.again bytes t.back rest
    (record { value = t.value; front = t.front; back = t.back; parts = t.parts; is_first = t.is_first; is_second = (refl, t.is_second.0) }) in
    rw (sized_again id bytes t.back rest counted, subsection_again locals id t.back names t.is_second.1) refl

nothing_left : (locals : Bool) (n : ℕ) → subsections_before locals n [] ≡ no_names
unfolding subsections_before sized_subsection_at
nothing_left locals n = grind arith

subsections_again : (locals : Bool) (n : ℕ) (bytes : List ℕ) (all : List NameLists) → length bytes ≤ n → SpellsSubsections locals bytes all
    → subsections_before locals n bytes ≡ joined_all all
subsections_again locals n bytes [] le s = rw s (nothing_left locals n)
subsections_again locals n bytes (names ∷ later) le ([], back, e, s, more) = absurd s
subsections_again locals zero bytes (names ∷ later) le (id ∷ front, back, e, s, more) =
    let long : length bytes ≡ length (id ∷ front ++ back) = ap length e in absurd (omega arith)
subsections_again locals (suc n) bytes (names ∷ later) le (id ∷ front, back, e, s, more) =
    let long : length bytes ≡ length (id ∷ front ++ back) = ap length e in
    let short : length back ≤ n = omega (arith, length-append front back) in
    rw e (one_again locals n id front back names s) ∙ ap (joined names) (subsections_again locals n back later short more)

pub section_again : (locals : Bool) (bytes : List ℕ) (all : List NameLists) → SpellsSubsections locals bytes all
    → names_of_section locals bytes ≡ joined_all all
unfolding names_of_section
section_again locals bytes all s = subsections_again locals (length bytes) bytes all (omega arith) s
