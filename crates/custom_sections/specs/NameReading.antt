-- What a name section gives: the names before its first fault (core specification, appendix, name
-- section).
use Rattle.std.specs.Prelude.{ℕ, zero, suc, List, [], ◌∷◌, ◌++◌, length, Bool, true, false, ◌==◌, ◌&&◌, Option, Some, None, Result, Ok, Err, if◌then◌else◌}
use Rattle.form_reader.specs.Reading.{Fault, Reader, ◌>>=◌, gives_at, first_byte_at, whole}
use Rattle.form_reader.specs.ReadingNumbers.{unsigned_at, counted_bytes_at, name_at}
use Rattle.custom_sections.specs.NameLists.{NameLists, no_names, joined}

-- ---- vectors up to a fault

-- what is at the front of some bytes before a fault, if anything is, and the bytes after it
-- where there was no fault
abbrev pub Partly : Type 0 → Type 0
Partly A = List ℕ → Option A × Option (List ℕ)

-- the same of many
abbrev pub PartlyAll : Type 0 → Type 0
PartlyAll A = List ℕ → List A × Option (List ℕ)

abbrev pub list_of : {A : Type 0} → Option A → List A
list_of (Some x) = x ∷ []
list_of None = []

-- these, and those after them
abbrev pub in_front : {A : Type 0} → List A → List A × Option (List ℕ) → List A × Option (List ℕ)
in_front front later = (front ++ later.0, later.1)

-- these, and those at the bytes after them, unless there was a fault
abbrev pub go_on : {A : Type 0} → List A → Option (List ℕ) → PartlyAll A → List A × Option (List ℕ)
go_on front None later = (front, None)
go_on front (Some rest) later = in_front front (later rest)

-- so many elements, or those before a fault
unfoldable pub elements_before : {A : Type 0} → Partly A → ℕ → PartlyAll A
elements_before part zero bytes = ([], Some bytes)
elements_before part (suc n) bytes = go_on (list_of (part bytes).0) (part bytes).1 (elements_before part n)

abbrev pub counted_before : {A : Type 0} → Partly A → Result (ℕ × List ℕ) Fault → List A × Option (List ℕ)
counted_before part (Ok count) = elements_before part count.0 count.1
counted_before part (Err fault) = ([], None)

-- a count and that many elements, or those before a fault
unfoldable pub vector_before : {A : Type 0} → Partly A → PartlyAll A
vector_before part bytes = counted_before part (unsigned_at 32 bytes)

-- ---- names of indices

-- an index and its name
unfoldable pub naming_at : Reader (ℕ × List ℕ)
naming_at = do
  index ← unsigned_at 32
  text ← name_at
  gives_at (index, text)

abbrev pub one_or_none : {A : Type 0} → Result (A × List ℕ) Fault → Option A × Option (List ℕ)
one_or_none (Ok x) = (Some x.0, Some x.1)
one_or_none (Err fault) = (None, None)

-- with a fault in it nothing of a naming is read
abbrev pub naming_before : Partly (ℕ × List ℕ)
naming_before bytes = one_or_none (naming_at bytes)

-- names of functions, or of the locals of one
abbrev pub names_before : PartlyAll (ℕ × List ℕ)
names_before = vector_before naming_before

abbrev pub of_function : ℕ → List (ℕ × List ℕ) × Option (List ℕ) → Option (ℕ × List (ℕ × List ℕ)) × Option (List ℕ)
of_function function names = (Some (function, names.0), names.1)

abbrev pub locals_behind : Result (ℕ × List ℕ) Fault → Option (ℕ × List (ℕ × List ℕ)) × Option (List ℕ)
locals_behind (Ok function) = of_function function.0 (names_before function.1)
locals_behind (Err fault) = (None, None)

-- a function and the names of its locals; with a fault in it, the names before that
abbrev pub locals_before : Partly (ℕ × List (ℕ × List ℕ))
locals_before bytes = locals_behind (unsigned_at 32 bytes)

-- ---- subsections

-- there was no fault, and no byte remains
abbrev pub is_filled : Option (List ℕ) → Bool
is_filled (Some bytes) = length bytes == 0
is_filled None = false

-- the names of a subsection, and whether they fill it without a fault
abbrev pub module_named : Result (List ℕ) Fault → NameLists × Bool
module_named (Ok text) = (record no_names { module_name = Some text }, true)
module_named (Err fault) = (no_names, false)

abbrev pub functions_named : List (ℕ × List ℕ) × Option (List ℕ) → NameLists × Bool
functions_named names = (record no_names { functions = names.0 }, is_filled names.1)

abbrev pub locals_named : List (ℕ × List (ℕ × List ℕ)) × Option (List ℕ) → NameLists × Bool
locals_named names = (record no_names { locals = names.0 }, is_filled names.1)

-- the names of the subsection with this id; those of locals are read where the caller requires
-- them, and skipped otherwise, as is a subsection of any higher id
unfoldable pub subsection : Bool → ℕ → List ℕ → NameLists × Bool
subsection locals id contents =
    if id == 0 then module_named (whole name_at contents)
    else (if id == 1 then functions_named (names_before contents)
    else (if (id == 2) && locals then locals_named (vector_before locals_before contents)
    else (no_names, true)))

-- an id, and contents of which there are as many bytes as their size says
unfoldable pub sized_subsection_at : Reader (ℕ × List ℕ)
sized_subsection_at = first_byte_at (λ id. counted_bytes_at >>= λ contents. gives_at (id, contents))

-- names, and those at the bytes after them, unless there was a fault
abbrev pub go_on_names : NameLists → Bool → NameLists → NameLists
go_on_names names true later = joined names later
go_on_names names false later = names

abbrev pub subsection_then : Bool → Result ((ℕ × List ℕ) × List ℕ) Fault → (List ℕ → NameLists) → NameLists
subsection_then locals (Ok x) later =
    go_on_names (subsection locals x.0.0 x.0.1).0 (subsection locals x.0.0 x.0.1).1 (later x.1)
subsection_then locals (Err fault) later = no_names

-- the names of at most so many subsections, up to a fault
unfoldable pub subsections_before : Bool → ℕ → List ℕ → NameLists
subsections_before locals zero bytes = no_names
subsections_before locals (suc n) bytes = subsection_then locals (sized_subsection_at bytes) (subsections_before locals n)

-- the names of a name section up to its first fault; no subsection is empty, so there are at most
-- as many as bytes
unfoldable pub names_of_section : Bool → List ℕ → NameLists
names_of_section locals contents = subsections_before locals (length contents) contents
