-- How sections are read: a row for each part of `Grammar`. Custom sections are supported, except
-- those of interface types.
use Rattle.std.specs.Prelude.{ℕ, ◌==◌, Option, ◌||◌, nat_le, Contains, codes, bytes_eq, if◌then◌else◌}
use Rattle.std.specs.Str.{is_utf8}
use Rattle.wasm_spec.specs.declared.types.RefType.{RefType}
use Rattle.wasm_spec.specs.declared.operators.What.TheVariants as what
use Rattle.wasm_spec.specs.Module.{ElementKind, Payload, Custom}
use Rattle.wasm_spec.specs.Parts.{Part}
use Rattle.wasm_spec.specs.Grammar as grammar
use Rattle.form_reader.specs.ReadingNumbers.{name_at}
use Rattle.form_reader.specs.Agrees.{Agrees, checked_agrees, Fills, err, ok_is, ok_not_err, nothing_agrees, choose_agrees}
use Rattle.form_reader.specs.NumberLaws.{counted_bytes_agree}
use Rattle.form_reader.specs.Rows.{Row, ◌>>=◌, gives, nothing, stops_at, unsigned, counted_bytes, all_bytes_as, choose, first_byte, vector, fill_after, sized, RestRow, measured, filled_as, sized_as}
use Rattle.form_reader.specs.TypeRows.{reference_after, reference_type, value_type, memory_type, table_limits, table_type, global_type, tag_type, group}
use Rattle.form_reader.specs.ExpressionLaws.{expression}
use Rattle.std.proofs.Common.{◌≡◌, ℕ, ◌+◌, List, [], ◌∷◌, Option, Some, None, Ok, Err, Bool, true, false, cond, refl, sym, ◌∙◌, arith, inl, inr}
use Rattle.std.proofs.lemmas.Bool.{cases_Bool}
use Rattle.std.proofs.lemmas.List.Elements.{Contains-push_cases}
use Rattle.std.proofs.lemmas.Slice.Eq.{bytes_eq-Decides}
use Rattle.wasm_spec.specs.declared.operators.What.{What}
use Rattle.wasm_spec.specs.Parts as part
use Rattle.wasm_spec.specs.Grammar.{name as grammar_name, interface_names, order_of}
use Rattle.form_reader.specs.Reading.{Stops, Reader, Filler, nothing_at, choose_at}

pub name_agrees : Agrees name_at grammar.name
unfolding name_at
name_agrees = checked_agrees is_utf8 counted_bytes_agree

abbrev pub name : Row grammar.name
name = record { read = name_at; agrees = name_agrees }

-- ---- imports and exports

unfoldable pub imported_after : (b : ℕ) → Row (grammar.imported_after b)
imported_after b =
    choose (b == 0x00) (unsigned 32 >>= λ n. gives _)
    (choose (b == 0x01) (table_type >>= λ t. gives _)
    (choose (b == 0x02) (memory_type >>= λ t. gives _)
    (choose (b == 0x03) (global_type >>= λ t. gives _)
    (choose (b == 0x04) (tag_type >>= λ n. gives _)
    (choose (b == 0x20) (stops_at what.ExactImport) nothing)))))

unfoldable pub import_entry : Row grammar.import_entry
import_entry = name >>= λ space. name >>= λ field. first_byte imported_after >>= λ type. gives _

unfoldable pub external_kind : Row grammar.external_kind
external_kind = first_byte (λ b.
    choose (b == 0x00) (gives _)
    (choose (b == 0x01) (gives _)
    (choose (b == 0x02) (gives _)
    (choose (b == 0x03) (gives _)
    (choose (b == 0x04) (gives _) nothing)))))

unfoldable pub export_entry : Row grammar.export_entry
export_entry = name >>= λ text. external_kind >>= λ kind. unsigned 32 >>= λ index. gives _

-- ---- tables and globals

unfoldable pub initialised_table : Row grammar.initialised_table
initialised_table = first_byte (λ zero. choose (zero == 0x00) (table_type >>= λ t. expression >>= λ e. gives _) nothing)

unfoldable pub table_entry : Row grammar.table_entry
table_entry = first_byte (λ b. choose (b == 0x40) initialised_table
    (reference_after b >>= λ element. table_limits element >>= λ t. gives _))

unfoldable pub global_entry : Row grammar.global_entry
global_entry = global_type >>= λ type. expression >>= λ init. gives _

-- ---- element segments

unfoldable pub functions_as : (kind : ElementKind) → Row (grammar.functions_as kind)
functions_as kind = vector (unsigned 32) >>= λ indices. gives _

unfoldable pub expressions_as : (kind : ElementKind) (type : RefType) → Row (grammar.expressions_as kind type)
expressions_as kind type = vector expression >>= λ items. gives _

abbrev pub after_function_kind : {A : Type 0} {g : Part A} → Row g → Row (grammar.after_function_kind g)
after_function_kind p = first_byte (λ b. choose (b == 0x00) p nothing)

unfoldable pub active_in : (table : Option ℕ) → Row (grammar.active_in table)
active_in table = expression >>= λ offset. gives _

unfoldable pub active_in_named : Row grammar.active_in_named
active_in_named = unsigned 32 >>= λ table. active_in _

unfoldable pub flagged_element : (flag : ℕ) → Row (grammar.flagged_element flag)
flagged_element flag =
    choose (flag == 0) (active_in _ >>= λ kind. functions_as _)
    (choose (flag == 1) (after_function_kind (functions_as _))
    (choose (flag == 2) (active_in_named >>= λ kind. after_function_kind (functions_as _))
    (choose (flag == 3) (after_function_kind (functions_as _))
    (choose (flag == 4) (active_in _ >>= λ kind. expressions_as _ _)
    (choose (flag == 5) (reference_type >>= λ type. expressions_as _ _)
    (choose (flag == 6) (active_in_named >>= λ kind. reference_type >>= λ type. expressions_as _ _)
    (choose (flag == 7) (reference_type >>= λ type. expressions_as _ _)
    nothing)))))))

unfoldable pub element_segment : Row grammar.element_segment
element_segment = unsigned 32 >>= λ flag. flagged_element flag

-- ---- function bodies

unfoldable pub locals_run : Row grammar.locals_run
locals_run = unsigned 32 >>= λ count. value_type >>= λ type. gives _

unfoldable pub body : Row grammar.body
body = sized (fill_after (vector locals_run) (λ locals. all_bytes_as _))

-- ---- data segments

unfoldable pub active_segment : (memory : ℕ) → Row (grammar.active_segment memory)
active_segment memory = expression >>= λ offset. counted_bytes >>= λ bytes. gives _

unfoldable pub passive_segment : Row grammar.passive_segment
passive_segment = counted_bytes >>= λ bytes. gives _

unfoldable pub flagged_segment : (flag : ℕ) → Row (grammar.flagged_segment flag)
flagged_segment flag =
    choose (flag == 0) (active_segment _)
    (choose (flag == 1) passive_segment
    (choose (flag == 2) (unsigned 32 >>= λ memory. active_segment _) nothing))

unfoldable pub data_segment : Row grammar.data_segment
data_segment = unsigned 32 >>= λ flag. flagged_segment flag

-- ---- non-custom sections

abbrev pub entries_as : {A : Type 0} {g : Part A} → Row g → (make : List A → Payload) → Row (grammar.entries_as g make)
entries_as p make = sized_as make (vector p)

abbrev pub number_as : (make : ℕ → Payload) → Row (grammar.number_as make)
number_as make = sized_as make (unsigned 32)

unfoldable pub code_at : (place : ℕ) → Row (grammar.code_at place)
code_at place = measured (unsigned 32) >>= λ size. filled_as _ _ (vector body)

unfoldable pub section_contents : (place id : ℕ) → Row (grammar.section_contents place id)
section_contents place id =
    choose (id == 1) (entries_as group _)
    (choose (id == 2) (entries_as import_entry _)
    (choose (id == 3) (entries_as (unsigned 32) _)
    (choose (id == 4) (entries_as table_entry _)
    (choose (id == 5) (entries_as memory_type _)
    (choose (id == 13) (entries_as tag_type _)
    (choose (id == 6) (entries_as global_entry _)
    (choose (id == 7) (entries_as export_entry _)
    (choose (id == 8) (number_as _)
    (choose (id == 9) (entries_as element_segment _)
    (choose (id == 12) (number_as _)
    (choose (id == 10) (code_at place)
    (choose (id == 11) (entries_as data_segment _) nothing))))))))))))

abbrev pub placed_section_at : ℕ → ℕ → ℕ → Option ℕ → Reader Payload
placed_section_at place next id None = nothing_at
placed_section_at place next id (Some order) = choose_at (nat_le next order) (section_contents (place + 1) id).read nothing_at

pub placed_section_agrees : (place next id : ℕ) (order : Option ℕ)
    → Agrees (placed_section_at place next id order) (grammar.placed_section place next id order)
placed_section_agrees place next id None = nothing_agrees
placed_section_agrees place next id (Some order) = choose_agrees (nat_le next order) (section_contents (place + 1) id).agrees nothing_agrees

abbrev pub placed_section : (place next id : ℕ) (order : Option ℕ) → Row (grammar.placed_section place next id order)
placed_section place next id order = record { read = placed_section_at place next id order; agrees = placed_section_agrees place next id order }

-- ---- custom sections

-- whether a name is one of custom sections of interface types
abbrev pub is_interface_name : List ℕ → Bool
is_interface_name n = bytes_eq n (codes "webidl-bindings") || bytes_eq n (codes "wasm-interface-types")

pub interface_is : (n : List ℕ) → is_interface_name n ≡ true → Contains interface_names n
interface_is n t = by_test (bytes_eq n (codes "webidl-bindings")) refl t where
  by_test : (b : Bool) → bytes_eq n (codes "webidl-bindings") ≡ b → (b || bytes_eq n (codes "wasm-interface-types")) ≡ true
      → Contains interface_names n
  by_test true e t = (0, omega arith, sym ((bytes_eq-Decides n (codes "webidl-bindings")).0 e))
  by_test false e t = (1, omega arith, sym ((bytes_eq-Decides n (codes "wasm-interface-types")).0 t))

pub is_interface : (n : List ℕ) → Contains interface_names n → is_interface_name n ≡ true
is_interface n h = elim (Contains-push_cases (codes "webidl-bindings" ∷ []) (codes "wasm-interface-types") n h) [
  | inl first ↦ elim (Contains-push_cases [] (codes "webidl-bindings") n first) [
    | inl none ↦ absurd (omega (arith, none.1))
    | inr e ↦ rw ((bytes_eq-Decides n (codes "webidl-bindings")).1 (sym e)) refl
  ]
  | inr e ↦ either (bytes_eq n (codes "webidl-bindings")) ((bytes_eq-Decides n (codes "wasm-interface-types")).1 (sym e))
]
  where
    either : (b : Bool) {c : Bool} → c ≡ true → (b || c) ≡ true
    either true e = refl
    either false e = e

-- custom sections that are none of interface types
abbrev pub custom_taken : List ℕ → Part Payload
custom_taken n = record { spells = λ bytes p. (p ≡ Custom n bytes) × (¬ Contains interface_names n); stops = (grammar.custom_after n).stops }

abbrev pub custom_after_at : List ℕ → Filler Payload
custom_after_at n bytes = if is_interface_name n then Err (Stops what.InterfaceTypes) else Ok (Custom n bytes)

pub custom_taken_fills : (n : List ℕ) → Fills (custom_after_at n) (custom_taken n)
custom_taken_fills n = record {
  found = λ bytes p e. found (is_interface_name n) refl bytes p e;
  again = again;
  stopped =
      λ bytes w e. stopped (is_interface_name n) refl bytes w e;
  stops_again = stops_again;
} where
  found : (t : Bool) → is_interface_name n ≡ t → (bytes : List ℕ) (p : Payload)
      → cond t (err (Stops what.InterfaceTypes)) (Ok (Custom n bytes)) ≡ Ok p → (p ≡ Custom n bytes) × (¬ Contains interface_names n)
  found true t bytes p e = absurd (ok_not_err p (Stops what.InterfaceTypes) (sym e))
  found false t bytes p e = (sym (ok_is (Custom n bytes) p e), λ h. let both : true ≡ false = sym (is_interface n h) ∙ t in absurd cc)

  again : (bytes : List ℕ) (p : Payload) → (p ≡ Custom n bytes) × (¬ Contains interface_names n) → custom_after_at n bytes ≡ Ok p
  again bytes p s = elim (cases_Bool (is_interface_name n)) [
    | inl t ↦ absurd (s.1 (interface_is n t))
    | inr f ↦ rw (f, s.0) refl
  ]

  stopped : (t : Bool) → is_interface_name n ≡ t → (bytes : List ℕ) (w : What)
      → cond t (err (Stops what.InterfaceTypes)) (Ok (Custom n bytes)) ≡ Err (Stops w) → Contains interface_names n × (w ≡ what.InterfaceTypes)
  stopped true t bytes w e = (interface_is n t, same w e) where
    same : (w : What) → err {A = Payload} (Stops what.InterfaceTypes) ≡ Err (Stops w) → w ≡ what.InterfaceTypes
    same w e = cc
  stopped false t bytes w e = absurd (ok_not_err (Custom n bytes) (Stops w) e)

  stops_again : (bytes : List ℕ) (w : What) → Contains interface_names n × (w ≡ what.InterfaceTypes) → custom_after_at n bytes ≡ Err (Stops w)
  stops_again bytes w s = rw (is_interface n s.0, s.1) refl

abbrev pub custom_after : (n : List ℕ) → RestRow (custom_taken n)
custom_after n = record { read = custom_after_at n; agrees = custom_taken_fills n }

-- a section whose custom ones are spelled in some way after their names
abbrev pub section_by : (List ℕ → Part Payload) → ℕ → ℕ → Part Payload
section_by after place next = part.first_byte (λ id. part.choose (id == 0) (part.sized (part.◌>>=◌ grammar_name after))
    (grammar.placed_section place next id (order_of id)))

abbrev pub section_of : {g : List ℕ → Part Payload} → ((n : List ℕ) → RestRow (g n)) → (place next : ℕ) → Row (section_by g place next)
section_of after place next = first_byte (λ id. choose (id == 0) (sized (fill_after name after)) (placed_section place next id (order_of id)))

unfoldable pub section : (place next : ℕ) → Row (section_by custom_taken place next)
section place next = section_of custom_after place next

-- a custom section alone
unfoldable pub custom_section : Row (part.first_byte (λ id. part.choose (id == 0) (part.sized (part.◌>>=◌ grammar_name custom_taken)) part.nothing))
custom_section = first_byte (λ id. choose (id == 0) (sized (fill_after name custom_after)) nothing)
