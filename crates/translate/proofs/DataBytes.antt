-- The data segments of a module have no more bytes than the module.
use Rattle.std.proofs.Common.{◌≡◌, ◌≤◌, ◌+◌, ◌==◌, ℕ, zero, suc, List, [], ◌∷◌, ◌++◌, length, Bool, true, false, Option, Some, None, sum_by, flat_map, refl, ap, arith, length-append}
use Rattle.std.specs.Prelude.{nat_le}
use Rattle.std.proofs.lemmas.List.Sums.{sum_by-append, sum_by-cons}
use Rattle.wasm_spec.specs.Parts.{Part, choose, nothing, vector, elements, counted_bytes}
use Rattle.wasm_spec.specs.Module.{Module, Payload, Types, Imports, FunctionTypes, Tables, Memories, Tags, Globals, Exports, Start, Elements, DataCount, Segments, Segment, segments_of_section, segments}
use Rattle.wasm_spec.specs.TypeGrammar.{group, memory_type, tag_type}
use Rattle.wasm_spec.specs.Grammar.{import_entry, export_entry, table_entry, global_entry, element_segment, data_segment, active_segment, passive_segment, flagged_segment, entries_as, number_as, code_at, section_contents, placed_section, section, order_of, next_order, SpellsSections, Spells, header}
use Rattle.wasm_spec.specs.Parts.{◌>>=◌, unsigned, sized}
use Rattle.wasm_spec.specs.Grammar.{custom_contents}

abbrev size : Segment → ℕ
size s = length s.bytes

-- the bytes of the data segments of a section
abbrev weight : Payload → ℕ
weight p = sum_by size (segments_of_section p)

-- what the part spells is a segment of no more bytes than it has
abbrev IsShort : Part Segment → Type 0
IsShort part = (bytes : List ℕ) (s : Segment) → part.spells bytes s → size s ≤ length bytes

short_choice : (test : Bool) (g h : Part Segment) → IsShort g → IsShort h → IsShort (choose test g h)
short_choice true g h a b = a
short_choice false g h a b = b

counted-few : (bytes x : List ℕ) → counted_bytes.spells bytes x → length x ≤ length bytes
counted-few bytes x s = omega (arith, ap length s.parts, length-append s.front s.back, ap length s.is_second.0)

active-short : (memory : ℕ) → IsShort (active_segment memory)
active-short memory bytes x s =
    let t = s.is_second in
    let n = counted-few t.front t.value t.is_first in
    rw t.is_second.1 (omega (arith, n, ap length s.parts, length-append s.front s.back, ap length t.parts, length-append t.front t.back))

segment-short : IsShort data_segment
segment-short bytes x s =
    let n = short_choice (s.value == 0) (active_segment 0) _ (active-short 0)
    (short_choice (s.value == 1) passive_segment _ (λ bs y t. let m = counted-few t.front t.value t.is_first in
    rw t.is_second.1 (omega (arith, m, ap length t.parts, length-append t.front t.back)))
    (short_choice (s.value == 2) (unsigned 32 >>= λ memory. active_segment memory) nothing (λ bs y t. let m = active-short t.value t.back y t.is_second in
    omega (arith, m, ap length t.parts, length-append t.front t.back)) (λ bs y t. absurd t))) s.back x s.is_second in
    omega (arith, n, ap length s.parts, length-append s.front s.back)

elements-short : (n : ℕ) (bytes : List ℕ) (ss : List Segment) → (elements data_segment n).spells bytes ss → sum_by size ss ≤ length bytes
elements-short zero bytes ss s = rw s.1 (omega arith)
elements-short (suc n) bytes ss s =
    let first = segment-short s.front s.value s.is_first in
    let t = s.is_second in
    let others = elements-short n t.front t.value t.is_first in
    rw t.is_second.1
    (omega (arith, first, others, sum_by-cons size s.value t.value, ap length s.parts, length-append s.front s.back, ap length t.parts, length-append t.front t.back))

-- ---- sections

-- what the part spells has data segments of no more bytes than it has
abbrev IsLight : Part Payload → Type 0
IsLight g = (bytes : List ℕ) (p : Payload) → g.spells bytes p → weight p ≤ length bytes

light_choice : (test : Bool) (g h : Part Payload) → IsLight g → IsLight h → IsLight (choose test g h)
light_choice true g h a b = a
light_choice false g h a b = b

light_nothing : IsLight nothing
light_nothing bytes p s = absurd s

-- sections of other entries
entries-light : {A : Type 0} (part : Part A) (make : List A → Payload) → ((xs : List A) → weight (make xs) ≡ 0) → IsLight (entries_as part make)
entries-light part make none bytes p s = let inside = s.is_second.1 in rw inside.is_second.1 (omega (arith, none inside.value))

number-light : (make : ℕ → Payload) → ((n : ℕ) → weight (make n) ≡ 0) → IsLight (number_as make)
number-light make none bytes p s = let inside = s.is_second.1 in rw inside.is_second.1 (omega (arith, none inside.value))

code-light : (place : ℕ) → IsLight (code_at place)
code-light place bytes p s = let inside = s.is_second.1 in rw inside.is_second.1 (omega arith)

segments-light : IsLight (entries_as data_segment Segments)
segments-light bytes p s =
    let inside = s.is_second.1 in
    let v = inside.is_first in
    let n = elements-short v.value v.back inside.value v.is_second in
    rw inside.is_second.1
    (omega (arith, n, ap length s.parts, length-append s.front s.back, ap length inside.parts, length-append inside.front inside.back, ap length v.parts, length-append v.front v.back))

contents-light : (place id : ℕ) → IsLight (section_contents place id)
contents-light place id =
    light_choice (id == 1) _ _ (entries-light group Types (λ x. refl))
    (light_choice (id == 2) _ _ (entries-light import_entry Imports (λ x. refl))
    (light_choice (id == 3) _ _ (entries-light (unsigned 32) FunctionTypes (λ x. refl))
    (light_choice (id == 4) _ _ (entries-light table_entry Tables (λ x. refl))
    (light_choice (id == 5) _ _ (entries-light memory_type Memories (λ x. refl))
    (light_choice (id == 13) _ _ (entries-light tag_type Tags (λ x. refl))
    (light_choice (id == 6) _ _ (entries-light global_entry Globals (λ x. refl))
    (light_choice (id == 7) _ _ (entries-light export_entry Exports (λ x. refl))
    (light_choice (id == 8) _ _ (number-light Start (λ n. refl))
    (light_choice (id == 9) _ _ (entries-light element_segment Elements (λ x. refl))
    (light_choice (id == 12) _ _ (number-light DataCount (λ n. refl))
    (light_choice (id == 10) _ _ (code-light place)
    (light_choice (id == 11) _ _ segments-light light_nothing))))))))))))

placed-light : (place next id : ℕ) (o : Option ℕ) → IsLight (placed_section place next id o)
placed-light place next id None = light_nothing
placed-light place next id (Some order) = light_choice (nat_le next order) _ _ (contents-light (place + 1) id) light_nothing

customs-light : IsLight (sized custom_contents)
customs-light bytes p s = rw s.is_second.1.is_second (omega arith)

section-light : (place next : ℕ) → IsLight (section place next)
section-light place next [] p s = absurd s
section-light place next (id ∷ bytes) p s =
    let n = light_choice (id == 0) _ _ customs-light (placed-light place next id (order_of id)) bytes p s in
    omega (arith, n)

sections-light : (ps : Module) (place next : ℕ) (bytes : List ℕ) → SpellsSections place next bytes ps → sum_by size (segments ps) ≤ length bytes
sections-light [] place next bytes s = omega arith
sections-light (p ∷ ps) place next bytes (front, back, parts, is, later) =
    let one = section-light place next front p is in
    let others = sections-light ps (place + length front) (next_order next p) back later in
    omega (arith, one, others, sum_by-append size (segments_of_section p) (segments ps), ap length parts, length-append front back)

-- the data segments of a module have no more bytes than it
pub data-few : (bytes : List ℕ) (m : Module) → Spells bytes m → sum_by size (segments m) ≤ length bytes
data-few bytes m s = let n = sections-light m 8 0 s.body s.are_sections in omega (arith, n, ap length s.parts, length-append header s.body)
