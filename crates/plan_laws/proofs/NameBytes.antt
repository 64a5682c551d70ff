-- What a name section gives has no more bytes than the section: a byte for each entry, and the
-- bytes of its text.
use Rattle.std.proofs.Common.{◌≡◌, ◌≤◌, ◌+◌, ℕ, zero, suc, List, [], ◌∷◌, length, Bool, true, false, cond, Option, Some, None, Result, Ok, Err, sum_by, refl, ap, arith, length-append}
use Rattle.std.specs.Prelude.{◌==◌, ◌&&◌}
use Rattle.std.proofs.lemmas.List.Sums.{sum_by-append, sum_by-cons}
use Rattle.std.specs.Option.{option_or}
use Rattle.wasm_spec.specs.Numbers.{SpellsUnsigned}
use Rattle.wasm_spec.specs.Parts.{counted_bytes}
use Rattle.form_reader.specs.Reading.{Fault, and_then, whole}
use Rattle.form_reader.specs.ReadingNumbers.{unsigned_at, counted_bytes_at, name_at}
use Rattle.form_reader.specs.Agrees.{Agrees, gives_agrees, then_agrees, step_ok, ok_is}
use Rattle.form_reader.specs.NumberLaws.{unsigned_agrees, counted_bytes_agree}
use Rattle.form_reader.specs.SectionRows.{name_agrees}
use Rattle.custom_sections.specs.NameGrammar.{naming}
use Rattle.custom_sections.specs.NameLists.{NameLists, no_names, joined}
use Rattle.custom_sections.specs.NameReading.{go_on, list_of, elements_before, counted_before, vector_before, naming_at, naming_before, names_before, one_or_none, locals_before, module_named, functions_named, locals_named, subsection, sized_subsection_at, subsection_then, go_on_names, subsections_before, names_of_section}

-- ---- what is spelled has bytes

number-long : (k : ℕ) (bytes : List ℕ) (n : ℕ) → SpellsUnsigned k bytes n → 1 ≤ length bytes
number-long k [] n s = absurd s.form
number-long k (b ∷ bytes) n s = omega arith

counted-long : (bytes text : List ℕ) → counted_bytes.spells bytes text → 1 + length text ≤ length bytes
counted-long bytes text s =
    let n = number-long 32 s.front s.value s.is_first in
    omega (arith, n, ap length s.parts, length-append s.front s.back, ap length s.is_second.0)

naming-long : (bytes : List ℕ) (x : ℕ × List ℕ) → naming.spells bytes x → 1 + length x.1 ≤ length bytes
naming-long bytes x s =
    let t = s.is_second in
    let n = counted-long t.front t.value t.is_first.0 in
    let e : length x.1 ≡ length t.value = ap (λ (y : ℕ × List ℕ). length y.1) t.is_second.1 in
    omega (arith, n, e, ap length s.parts, length-append s.front s.back, ap length t.parts, length-append t.front t.back)

-- ---- what is read

-- what is read of some bytes, and those after it, are no more than the bytes
number-read : (bytes : List ℕ) (n : ℕ) (rest : List ℕ) → unsigned_at 32 bytes ≡ Ok (n, rest) → 1 + length rest ≤ length bytes
number-read bytes n rest e =
    let f = (unsigned_agrees 32).found bytes n rest e in
    let l = number-long 32 f.0 n f.2 in
    omega (arith, l, ap length f.1, length-append f.0 rest)

counted-read : (bytes text rest : List ℕ) → counted_bytes_at bytes ≡ Ok (text, rest) → 1 + length text + length rest ≤ length bytes
counted-read bytes text rest e =
    let f = counted_bytes_agree.found bytes text rest e in
    let l = counted-long f.0 text f.2 in
    omega (arith, l, ap length f.1, length-append f.0 rest)

name-read : (bytes text rest : List ℕ) → name_at bytes ≡ Ok (text, rest) → 1 + length text + length rest ≤ length bytes
name-read bytes text rest e =
    let f = name_agrees.found bytes text rest e in
    let l = counted-long f.0 text f.2.0 in
    omega (arith, l, ap length f.1, length-append f.0 rest)

naming-agrees : Agrees naming_at naming
unfolding naming_at
naming-agrees = then_agrees (unsigned_agrees 32) (λ index. then_agrees name_agrees (λ text. gives_agrees _))

naming-read : (bytes : List ℕ) (x : ℕ × List ℕ) (rest : List ℕ) → naming_at bytes ≡ Ok (x, rest) → 1 + length x.1 + length rest ≤ length bytes
naming-read bytes x rest e =
    let f = naming-agrees.found bytes x rest e in
    let l = naming-long f.0 x f.2 in
    omega (arith, l, ap length f.1, length-append f.0 rest)

-- ---- names of functions

-- a byte for an entry, and its text
abbrev pub entry_bytes : ℕ × List ℕ → ℕ
entry_bytes x = 1 + length x.1

abbrev entries_bytes : List (ℕ × List ℕ) → ℕ
entries_bytes xs = sum_by entry_bytes xs

abbrev left : Option (List ℕ) → ℕ
left None = 0
left (Some rest) = length rest

elements-few : (n : ℕ) (bytes : List ℕ) → entries_bytes (elements_before naming_before n bytes).0 + left (elements_before naming_before n bytes).1 ≤ length bytes
unfolding elements_before
elements-few zero bytes = omega arith
elements-few (suc n) bytes = by (naming_at bytes) (naming-read bytes) (elements-few n) where
  by : (r : Result ((ℕ × List ℕ) × List ℕ) Fault) → ((x : ℕ × List ℕ) (rest : List ℕ) → r ≡ Ok (x, rest) → 1 + length x.1 + length rest ≤ length bytes)
      → ((bs : List ℕ) → entries_bytes (elements_before naming_before n bs).0 + left (elements_before naming_before n bs).1 ≤ length bs)
      → (let o = one_or_none r in let all = go_on (list_of o.0) o.1 (elements_before naming_before n) in entries_bytes all.0 + left all.1 ≤ length bytes)
  by (Ok x) short more =
      let s = short x.0 x.1 refl in
      let m = more x.1 in
      omega (arith, s, m, sum_by-cons entry_bytes x.0 (elements_before naming_before n x.1).0)
  by (Err fault) short more = omega arith

names-few : (bytes : List ℕ) → entries_bytes (names_before bytes).0 ≤ length bytes
unfolding vector_before
names-few bytes = by (unsigned_at 32 bytes) (number-read bytes) where
  by : (r : Result (ℕ × List ℕ) Fault) → ((n : ℕ) (rest : List ℕ) → r ≡ Ok (n, rest) → 1 + length rest ≤ length bytes)
      → entries_bytes (counted_before naming_before r).0 ≤ length bytes
  by (Ok x) short = let s = short x.0 x.1 refl in let m = elements-few x.0 x.1 in omega (arith, s, m)
  by (Err fault) short = omega arith

-- ---- sections

-- the bytes of the module's name
abbrev pub title_bytes : Option (List ℕ) → ℕ
title_bytes None = 0
title_bytes (Some text) = length text

-- of the names of a module and of its functions
abbrev pub names_bytes : NameLists → ℕ
names_bytes names = title_bytes names.module_name + sum_by entry_bytes names.functions

pub joined-few : (a b : NameLists) → names_bytes (joined a b) ≤ names_bytes a + names_bytes b
joined-few a b =
    let title = by a.module_name b.module_name in
    omega (arith, title, sum_by-append entry_bytes a.functions b.functions) where
      by : (x y : Option (List ℕ)) → title_bytes (option_or y x) ≤ title_bytes x + title_bytes y
      by x (Some text) = omega arith
      by x None = omega arith

title-few : (contents : List ℕ) → names_bytes (module_named (whole name_at contents)).0 ≤ length contents
unfolding whole
title-few contents = by (name_at contents) (name-read contents) where
  by : (r : Result (List ℕ × List ℕ) Fault) → ((text rest : List ℕ) → r ≡ Ok (text, rest) → 1 + length text + length rest ≤ length contents)
      → names_bytes (module_named (and_then r (λ x. cond (length x.1 == 0) (Ok x.0) (Err Fault.Bad)))).0 ≤ length contents
  by (Ok x) short = filled (length x.1 == 0) x (short x.0 x.1 refl) where
    filled : (t : Bool) (x : List ℕ × List ℕ) → 1 + length x.0 + length x.1 ≤ length contents
        → names_bytes (module_named (cond t (Ok x.0) (Err Fault.Bad))).0 ≤ length contents
    filled true x s = omega (arith, s)
    filled false x s = omega arith
  by (Err fault) short = omega arith

-- an id, the contents of its subsection, and the bytes after them
abbrev Sized : Type 0
Sized = (ℕ × List ℕ) × List ℕ

module _ (locals : Bool) where
  subsection-few : (id : ℕ) (contents : List ℕ) → names_bytes (subsection locals id contents).0 ≤ length contents
  unfolding subsection
  subsection-few id contents = by (id == 0) (id == 1) ((id == 2) && locals) where
    by : (a b c : Bool) → names_bytes (cond a (module_named (whole name_at contents)) (cond b (functions_named (names_before contents))
        (cond c (locals_named (vector_before locals_before contents)) (no_names, true)))).0 ≤ length contents
    by true b c = title-few contents
    by false true c = let n = names-few contents in omega (arith, n)
    by false false true = omega arith
    by false false false = omega arith

  sized-read : (bytes : List ℕ) (id : ℕ) (contents rest : List ℕ) → sized_subsection_at bytes ≡ Ok ((id, contents), rest) → length contents + length rest ≤ length bytes
  unfolding sized_subsection_at
  sized-read [] id contents rest e = absurd cc
  sized-read (b ∷ bytes) id contents rest e =
      let wanted : Sized = ((id, contents), rest) in
      let s = step_ok (counted_bytes_at bytes) (λ x. Ok ((b, x.0), x.1)) wanted e in
      let found : Sized = ((b, s.0.0), s.0.1) in
      let same : found ≡ wanted = ok_is found wanted s.2 in
      omega (arith, counted-read bytes s.0.0 s.0.1 s.1, ap (λ (y : Sized). length y.0.1) same, ap (λ (y : Sized). length y.1) same)

  subsections-few : (n : ℕ) (bytes : List ℕ) → names_bytes (subsections_before locals n bytes) ≤ length bytes
  unfolding subsections_before
  subsections-few zero bytes = omega arith
  subsections-few (suc n) bytes = by (sized_subsection_at bytes) (sized-read bytes) (subsections-few n) where
    by : (r : Result ((ℕ × List ℕ) × List ℕ) Fault)
        → ((id : ℕ) (contents rest : List ℕ) → r ≡ Ok ((id, contents), rest) → length contents + length rest ≤ length bytes)
        → ((bs : List ℕ) → names_bytes (subsections_before locals n bs) ≤ length bs)
        → names_bytes (subsection_then locals r (subsections_before locals n)) ≤ length bytes
    by (Ok x) short more =
        go (subsection locals x.0.0 x.0.1).1 (subsection-few x.0.0 x.0.1) (short x.0.0 x.0.1 x.1 refl) (more x.1) where
          go : (t : Bool) → names_bytes (subsection locals x.0.0 x.0.1).0 ≤ length x.0.1 → length x.0.1 + length x.1 ≤ length bytes
              → names_bytes (subsections_before locals n x.1) ≤ length x.1
              → names_bytes (go_on_names (subsection locals x.0.0 x.0.1).0 t (subsections_before locals n x.1)) ≤ length bytes
          go true one both later =
              let j = joined-few (subsection locals x.0.0 x.0.1).0 (subsections_before locals n x.1) in
              omega (arith, one, both, later, j)
          go false one both later = omega (arith, one, both)
    by (Err fault) short more = omega arith

  pub section-few : (contents : List ℕ) → names_bytes (names_of_section locals contents) ≤ length contents
  unfolding names_of_section
  section-few contents = subsections-few (length contents) contents
