-- A module has no more entries in its lists than bytes, those of the lists of its types among them.
use Rattle.std.proofs.Common.{◌≡◌, ◌≤◌, ◌<◌, ◌+◌, ◌^◌, ℕ, zero, suc, List, [], ◌∷◌, ◌++◌, length, map, Bool, true, false, Option, Some, None, refl, ap, ◌∙◌, arith, length-append}
use Rattle.std.specs.Prelude.{nat_le, ◌==◌}
use Rattle.std.specs.List.{flat_map, filter_map, cons_option, All}
use Rattle.std.proofs.lemmas.List.{length-map}
use Rattle.std.proofs.lemmas.List.Concat.{flat_map-append}
use Rattle.std.proofs.lemmas.List.Elements.{All-nil, All-cons}
use Rattle.wasm_spec.specs.declared.entities.TypeRef.{TypeRef}
use Rattle.wasm_spec.specs.declared.types.UnpackedIndex.{UnpackedIndex}
use Rattle.wasm_spec.specs.Numbers.{SpellsUnsigned}
use Rattle.wasm_spec.specs.Parts.{Part, ◌>>=◌, choose, gives, nothing, first_byte, unsigned, non_negative, elements, vector, sized}
use Rattle.wasm_spec.specs.TypeData.{Composite, Func, Array, Struct, Cont, Exn, SubType, Group, value_of, field_of}
use Rattle.wasm_spec.specs.Module.{Import, Payload, Types, Imports, FunctionTypes, Tables, Memories, Tags, Globals, Exports, Start, Elements, DataCount, Segments, Module, groups, groups_of_section, imports, imports_of_section, imported_of, function_types_of_section, tables_of_section, memories_of_section, tags_of_section, globals_of_section, exports_of_section, elements_of_section, bodies_of_section, segments_of_section, types, function_import, table_import, memory_import, global_import, tag_import, HasFewEntries}
use Rattle.wasm_spec.specs.TypeGrammar.{value_type, storage_type, field_type, function_type, composite_after, with_supertype, group, sub_type_after, memory_type, global_type, tag_type}
use Rattle.wasm_spec.specs.Grammar.{name, import_entry, export_entry, table_entry, global_entry, element_segment, body, data_segment, custom_contents, entries_as, number_as, code_at, section_contents, placed_section, order_of, section, next_order, SpellsSections, Spells, header}
use Rattle.wasm_spec.specs.Interfaces.{IsNoInterface}
use Rattle.wasm_spec.specs.Sizes.{CompositeHasShortLists, HasShortLists, HasShortTypes}

-- ---- parts of at least one byte

record TakesBytes {A : Type 0} (part : Part A) : Type 0 where
  takes : (bytes : List ℕ) (x : A) → part.spells bytes x → 1 ≤ length bytes

first_takes : {A : Type 0} (part : ℕ → Part A) → TakesBytes (first_byte part)
first_takes {A} part = record { takes = some } where
  some : (bytes : List ℕ) (x : A) → (first_byte part).spells bytes x → 1 ≤ length bytes
  some [] x s = absurd s
  some (b ∷ bytes) x s = omega arith

number_takes : (k : ℕ) → TakesBytes (unsigned k)
number_takes k = record { takes = some } where
  some : (bytes : List ℕ) (n : ℕ) → SpellsUnsigned k bytes n → 1 ≤ length bytes
  some [] n s = absurd s.form
  some (b ∷ bytes) n s = omega arith

then_takes : {A B : Type 0} (first : Part A) (second : A → Part B) → TakesBytes first → TakesBytes (first >>= second)
then_takes first second t = record {
  takes = λ bytes x s. let n = t.takes s.front s.value s.is_first in
      omega (arith, ap length s.parts, length-append s.front s.back);
}

name_takes : TakesBytes name
name_takes = let t = then_takes (unsigned 32) _ (number_takes 32) in record { takes = λ bytes x s. t.takes bytes x s.0 }

-- ---- elements

-- the sum of what each element counts
abbrev total : {A : Type 0} → (A → ℕ) → List A → ℕ
total count [] = 0
total count (x ∷ xs) = count x + total count xs

-- an element counts at most its bytes
abbrev CountsBytes : {A : Type 0} → (A → ℕ) → Part A → Type 0
CountsBytes {A} count part = (bytes : List ℕ) (x : A) → part.spells bytes x → count x ≤ length bytes

elements_count : {A : Type 0} (count : A → ℕ) (part : Part A) → CountsBytes count part → (n : ℕ) (bytes : List ℕ) (xs : List A)
    → (elements part n).spells bytes xs → total count xs ≤ length bytes
elements_count count part counts zero bytes xs s = rw s.1 (omega arith)
elements_count count part counts (suc n) bytes xs s =
    let first = counts s.front s.value s.is_first in
    let t = s.is_second in
    let others = elements_count count part counts n t.front t.value t.is_first in
    rw t.is_second.1 (omega (arith, ap length s.parts, length-append s.front s.back, ap length t.parts, length-append t.front t.back))

-- their count takes a byte too
vector_counts : {A : Type 0} (count : A → ℕ) (part : Part A) → CountsBytes count part → (bytes : List ℕ) (xs : List A)
    → (vector part).spells bytes xs → 1 + total count xs ≤ length bytes
vector_counts count part counts bytes xs s =
    let n = elements_count count part counts s.value s.back xs s.is_second in
    let first = (number_takes 32).takes s.front s.value s.is_first in
    omega (arith, n, first, ap length s.parts, length-append s.front s.back)

total_ones : {A : Type 0} (xs : List A) → total (λ x. 1) xs ≡ length xs
total_ones [] = refl
total_ones (x ∷ xs) = let ones = total_ones xs in omega (arith, ones)

total-append : {A : Type 0} (count : A → ℕ) (xs ys : List A) → total count (xs ++ ys) ≡ total count xs + total count ys
total-append count [] ys = omega arith
total-append count (x ∷ xs) ys = let others = total-append count xs ys in omega (arith, others)

-- elements that take bytes are fewer than the bytes of their vector
vector_few : {A : Type 0} (part : Part A) → TakesBytes part → (bytes : List ℕ) (xs : List A) → (vector part).spells bytes xs
    → 1 + length xs ≤ length bytes
vector_few part t bytes xs s = let n = vector_counts (λ x. 1) part t.takes bytes xs s in omega (arith, n, total_ones xs)

-- ---- groups of types

-- a choice is one of the two
either_counts : {A : Type 0} {count : A → ℕ} (b : Bool) (p q : Part A) → CountsBytes count p → CountsBytes count q → CountsBytes count (choose b p q)
either_counts true p q one other = one
either_counts false p q one other = other

nothing_counts : {A : Type 0} (count : A → ℕ) → CountsBytes count nothing
nothing_counts count bytes x s = absurd s

non_negative_takes : (k : ℕ) → TakesBytes (non_negative k)
non_negative_takes k = record { takes = some } where
  some : (bytes : List ℕ) (n : ℕ) → (non_negative k).spells bytes n → 1 ≤ length bytes
  some [] n s = absurd s.form
  some (b ∷ bytes) n s = omega arith

-- how many entries the lists of a type have
abbrev wide : Composite UnpackedIndex UnpackedIndex → ℕ
wide (Func f) = length f.params + length f.results
wide (Struct fields) = length fields
wide (Exn e) = length e.fields
wide _ = 0

abbrev width : SubType UnpackedIndex UnpackedIndex → ℕ
width t = wide t.composite.inner

-- a type, and the entries of its lists
abbrev member : SubType UnpackedIndex UnpackedIndex → ℕ
member t = 1 + width t

function_wide : CountsBytes (λ c. 1 + wide c) function_type
function_wide bytes x s =
    let t = s.is_second in
    let params = vector_few value_type (first_takes _) s.front s.value s.is_first in
    let results = vector_few value_type (first_takes _) t.front t.value t.is_first in
    let both : wide x ≡ length (map value_of s.value) + length (map value_of t.value) = ap wide t.is_second.1 in
    omega (arith, params, results, both, length-map s.value value_of, length-map t.value value_of, ap length s.parts, length-append s.front s.back, ap length t.parts, length-append t.front t.back)

field_takes : TakesBytes field_type
field_takes = then_takes storage_type _ (first_takes _)

composite_wide : (b : ℕ) → CountsBytes (λ c. 1 + wide c) (composite_after b)
composite_wide b =
    either_counts (b == 0x60) _ _ function_wide
    (either_counts (b == 0x5F) _ _ (λ bytes x s.
    let n = vector_few field_type field_takes s.front s.value s.is_first in
    omega (arith, n, ap wide s.is_second.1, length-map s.value field_of, ap length s.parts, length-append s.front s.back))
    (either_counts (b == 0x5E) _ _ (λ bytes x s.
    let n = field_takes.takes s.front s.value s.is_first in
    omega (arith, n, ap wide s.is_second.1, ap length s.parts, length-append s.front s.back))
    (either_counts (b == 0x5D) _ _ (λ bytes x s.
    let n = (non_negative_takes 33).takes s.front s.value s.is_first in
    omega (arith, n, ap wide s.is_second.1, ap length s.parts, length-append s.front s.back))
    (either_counts (b == 0x65) _ _ (λ bytes x s. absurd s) (nothing_counts _)))))

first_wide : CountsBytes (λ c. 1 + wide c) (first_byte composite_after)
first_wide [] x s = absurd s
first_wide (b ∷ bytes) x s = let n = composite_wide b bytes x s in omega (arith, n)

super_wide : (is_final : Bool) → CountsBytes member (with_supertype is_final)
super_wide is_final bytes x s =
    let t = s.is_second in
    let n = first_wide t.front t.value t.is_first in
    omega (arith, n, ap width t.is_second.1, ap length s.parts, length-append s.front s.back, ap length t.parts, length-append t.front t.back)

sub_type_wide : (b : ℕ) → CountsBytes member (sub_type_after b)
sub_type_wide b = either_counts (b == 0x50) _ _ (super_wide false) (either_counts (b == 0x4F) _ _ (super_wide true) (λ bytes x s.
    let n = composite_wide b s.front s.value s.is_first in
    omega (arith, n, ap width s.is_second.1, ap length s.parts, length-append s.front s.back)))

member_wide : CountsBytes member (first_byte sub_type_after)
member_wide [] x s = absurd s
member_wide (b ∷ bytes) x s = let n = sub_type_wide b bytes x s in omega (arith, n)

-- a group takes a byte in addition to its members
group_wide : CountsBytes (λ g. 1 + total member g) group
group_wide [] g s = absurd s
group_wide (b ∷ bytes) g s = by_first (b == 0x4E) s where
  by_first : (many : Bool) → (choose many (vector (first_byte sub_type_after)) (sub_type_after b >>= λ t. gives (t ∷ []))).spells bytes g
      → 1 + total member g ≤ length (b ∷ bytes)
  by_first true s = let n = vector_counts member (first_byte sub_type_after) member_wide bytes g s in omega (arith, n)
  by_first false s =
      let n = sub_type_wide b s.front s.value s.is_first in
      omega (arith, n, ap (total member) s.is_second.1, ap length s.parts, length-append s.front s.back)

pub total_members : (ts : List (SubType UnpackedIndex UnpackedIndex)) → total member ts ≡ length ts + total width ts
total_members [] = refl
total_members (t ∷ ts) = let others = total_members ts in omega (arith, others)

total_groups : (gs : List (Group UnpackedIndex UnpackedIndex))
    → total (λ g. 1 + total member g) gs ≡ length gs + total member (flat_map (λ g. g) gs)
total_groups [] = refl
total_groups (g ∷ gs) =
    let others = total_groups gs in
    omega (arith, others, total-append member g (flat_map (λ (h : Group UnpackedIndex UnpackedIndex). h) gs))

groups_few : (bytes : List ℕ) (gs : List (Group UnpackedIndex UnpackedIndex)) → (vector group).spells bytes gs
    → length gs + total member (flat_map (λ g. g) gs) ≤ length bytes
groups_few bytes gs s =
    let n = vector_counts (λ g. 1 + total member g) group group_wide bytes gs s in
    omega (arith, n, total_groups gs)

-- ---- sections

-- how many entries a section has in all lists together
abbrev entries : Payload → ℕ
entries p =
    length (groups_of_section p) + total member (flat_map (λ g. g) (groups_of_section p)) + length (imports_of_section p)
    + length (function_types_of_section p) + length (tables_of_section p) + length (memories_of_section p) + length (tags_of_section p)
    + length (globals_of_section p) + length (exports_of_section p) + length (elements_of_section p) + length (bodies_of_section p)
    + length (segments_of_section p)

-- what the part spells has no more entries than bytes, and is no section of interface types
abbrev IsSound : Part Payload → Type 0
IsSound g = (bytes : List ℕ) (p : Payload) → g.spells bytes p → (entries p ≤ length bytes) × IsNoInterface p

either_sound : (test : Bool) (g h : Part Payload) → IsSound g → IsSound h → IsSound (choose test g h)
either_sound true g h a b = a
either_sound false g h a b = b

nothing_sound : IsSound nothing
nothing_sound bytes p s = absurd s

made_sound : {A : Type 0} (part : Part A) (make : List A → Payload) → ((xs : List A) → IsNoInterface (make xs))
    → ((bytes : List ℕ) (xs : List A) → (vector part).spells bytes xs → entries (make xs) ≤ length bytes) → IsSound (entries_as part make)
made_sound part make plain few bytes p s =
    let inside = s.is_second.1 in
    let n = few inside.front inside.value inside.is_first in
    rw inside.is_second.1
    (omega (arith, n, ap length s.parts, length-append s.front s.back, ap length inside.parts, length-append inside.front inside.back), plain inside.value)

-- entries that count as one each
entries_sound : {A : Type 0} (part : Part A) (make : List A → Payload) → ((xs : List A) → IsNoInterface (make xs)) → TakesBytes part
    → ((xs : List A) → entries (make xs) ≡ length xs) → IsSound (entries_as part make)
entries_sound part make plain takes one =
    made_sound part make plain (λ bytes xs s. let n = vector_few part takes bytes xs s in omega (arith, n, one xs))

number_sound : (k : ℕ → Payload) → ((n : ℕ) → IsNoInterface (k n)) → ((n : ℕ) → entries (k n) ≡ 0) → IsSound (number_as k)
number_sound k plain none bytes p s =
    let inside = s.is_second.1 in
    rw inside.is_second.1 (omega (arith, none inside.value), plain inside.value)

code_sound : (place : ℕ) → IsSound (code_at place)
code_sound place bytes p s =
    let inside = s.is_second.1 in
    let n = vector_few body (then_takes (unsigned 32) _ (number_takes 32)) inside.front inside.value inside.is_first in
    rw inside.is_second.1
    (omega (arith, n, ap length s.parts, length-append s.front s.back, ap length inside.parts, length-append inside.front inside.back), tt)

contents_sound : (place id : ℕ) → IsSound (section_contents place id)
contents_sound place id =
    either_sound (id == 1) _ _ (made_sound group Types (λ x. tt) (λ bytes gs s. let n = groups_few bytes gs s in omega (arith, n)))
    (either_sound (id == 2) _ _ (entries_sound import_entry Imports (λ x. tt) (then_takes name _ name_takes) (λ xs. omega arith))
    (either_sound (id == 3) _ _ (entries_sound (unsigned 32) FunctionTypes (λ x. tt) (number_takes 32) (λ xs. omega arith))
    (either_sound (id == 4) _ _ (entries_sound table_entry Tables (λ x. tt) (first_takes _) (λ xs. omega arith))
    (either_sound (id == 5) _ _ (entries_sound memory_type Memories (λ x. tt) (first_takes _) (λ xs. omega arith))
    (either_sound (id == 13) _ _ (entries_sound tag_type Tags (λ x. tt) (first_takes _) (λ xs. omega arith))
    (either_sound (id == 6) _ _
    (entries_sound global_entry Globals (λ x. tt) (then_takes global_type _ (then_takes value_type _ (first_takes _))) (λ xs. omega arith))
    (either_sound (id == 7) _ _ (entries_sound export_entry Exports (λ x. tt) (then_takes name _ name_takes) (λ xs. omega arith))
    (either_sound (id == 8) _ _ (number_sound Start (λ x. tt) (λ n. refl))
    (either_sound (id == 9) _ _
    (entries_sound element_segment Elements (λ x. tt) (then_takes (unsigned 32) _ (number_takes 32)) (λ xs. omega arith))
    (either_sound (id == 12) _ _ (number_sound DataCount (λ x. tt) (λ n. refl))
    (either_sound (id == 10) _ _ (code_sound place)
    (either_sound (id == 11) _ _
    (entries_sound data_segment Segments (λ x. tt) (then_takes (unsigned 32) _ (number_takes 32)) (λ xs. omega arith)) nothing_sound))))))))))))

pub placed_sound : (place next id : ℕ) (o : Option ℕ) → IsSound (placed_section place next id o)
placed_sound place next id None = nothing_sound
placed_sound place next id (Some order) = either_sound (nat_le next order) _ _ (contents_sound (place + 1) id) nothing_sound

customs_few : CountsBytes entries (sized custom_contents)
customs_few bytes p s = rw s.is_second.1.is_second (omega arith)

section_few : (place next : ℕ) → CountsBytes entries (section place next)
section_few place next [] p s = absurd s
section_few place next (id ∷ bytes) p s =
    let n = either_counts (id == 0) _ _ customs_few (λ bs q t. (placed_sound place next id (order_of id) bs q t).0) bytes p s in
    omega (arith, n)

-- ---- modules

-- the entries of all lists of a module
abbrev all_entries : Module → ℕ
all_entries m =
    length (groups m) + total member (types m) + length (imports m) + length (flat_map function_types_of_section m)
    + length (flat_map tables_of_section m) + length (flat_map memories_of_section m) + length (flat_map tags_of_section m)
    + length (flat_map globals_of_section m) + length (flat_map exports_of_section m) + length (flat_map elements_of_section m)
    + length (flat_map bodies_of_section m) + length (flat_map segments_of_section m)

-- of one list, the entries of the first section and those of the others
one_list : {A : Type 0} (list : Payload → List A) (p : Payload) (ps : Module)
    → length (flat_map list (p ∷ ps)) ≡ length (list p) + length (flat_map list ps)
one_list list p ps = length-append (list p) (flat_map list ps)

all_members : (p : Payload) (ps : Module)
    → total member (types (p ∷ ps)) ≡ total member (flat_map (λ g. g) (groups_of_section p)) + total member (types ps)
all_members p ps = ap (total member) (flat_map-append (λ (g : Group UnpackedIndex UnpackedIndex). g) (groups_of_section p) (groups ps))
    ∙ total-append member (flat_map (λ g. g) (groups_of_section p)) (types ps)

all_more : (p : Payload) (ps : Module) → all_entries (p ∷ ps) ≡ entries p + all_entries ps
all_more p ps =
    omega (
      arith,
      one_list groups_of_section p ps,
      all_members p ps,
      one_list imports_of_section p ps,
      one_list function_types_of_section p ps,
      one_list tables_of_section p ps,
      one_list memories_of_section p ps,
      one_list tags_of_section p ps,
      one_list globals_of_section p ps,
      one_list exports_of_section p ps,
      one_list elements_of_section p ps,
      one_list bodies_of_section p ps,
      one_list segments_of_section p ps,
    )

pub sections_few : (ps : Module) (place next : ℕ) (bytes : List ℕ) → SpellsSections place next bytes ps → all_entries ps ≤ length bytes
sections_few [] place next bytes s = omega arith
sections_few (p ∷ ps) place next bytes (front, back, parts, is, later) =
    let one = section_few place next front p is in
    let others = sections_few ps (place + length front) (next_order next p) back later in
    omega (arith, one, others, all_more p ps, ap length parts, length-append front back)

-- the imports of one kind are some of all imports
pub imported_few : {A : Type 0} (kind : TypeRef → Option A) (is : List Import) → length (filter_map (λ i. kind i.type) is) ≤ length is
imported_few kind [] = omega arith
imported_few {A} kind (i ∷ is) = by_kind (kind i.type) (imported_few kind is) where
  by_kind : (o : Option A) → length (filter_map (λ j. kind j.type) is) ≤ length is
      → length (cons_option o (filter_map (λ j. kind j.type) is)) ≤ length (i ∷ is)
  by_kind None few = omega (arith, few)
  by_kind (Some x) few = omega (arith, few)

-- an index space is no longer than the imports and what is defined
space_few : {A : Type 0} (kind : TypeRef → Option A) (m : Module) (defined : List A)
    → length (imported_of kind m ++ defined) ≤ length (imports m) + length defined
space_few kind m defined = let n = imported_few kind (imports m) in omega (arith, n, length-append (imported_of kind m) defined)

-- types, imports and tags are no more than bytes
pub types_few : (bytes : List ℕ) (m : Module) → Spells bytes m
    → length (types m) + length (imports m) + length (flat_map tags_of_section m) ≤ length bytes
types_few bytes m s =
    let n = sections_few m 8 0 s.body s.are_sections in
    omega (arith, n, total_members (types m), ap length s.parts, length-append header s.body)

pub few_entries : (bytes : List ℕ) (m : Module) → Spells bytes m → length bytes < 2 ^ 30 → HasFewEntries m
few_entries bytes m s short =
    let n = sections_few m 8 0 s.body s.are_sections in
    let body : length s.body ≤ length bytes = omega (arith, ap length s.parts, length-append header s.body) in
    record {
      groups = omega (arith, n);
      types = omega (arith, n, total_members (types m));
      imports = omega (arith, n);
      functions = let f = space_few function_import m (flat_map function_types_of_section m) in omega (arith, n, f);
      tables = let f = space_few table_import m (map (λ t. t.type) (flat_map tables_of_section m)) in
          omega (arith, n, f, length-map (flat_map tables_of_section m) (λ t. t.type));
      memories = let f = space_few memory_import m (flat_map memories_of_section m) in omega (arith, n, f);
      globals = let f = space_few global_import m (map (λ g. g.type) (flat_map globals_of_section m)) in
          omega (arith, n, f, length-map (flat_map globals_of_section m) (λ g. g.type));
      tags = let f = space_few tag_import m (flat_map tags_of_section m) in omega (arith, n, f);
      exports = omega (arith, n);
      elements = omega (arith, n);
      bodies = omega (arith, n);
      segments = omega (arith, n);
    }

-- ---- the lists of types

narrow : (c : Composite UnpackedIndex UnpackedIndex) → wide c < 2 ^ 30 → CompositeHasShortLists c
narrow (Func f) n = (omega (arith, n), omega (arith, n))
narrow (Array f) n = tt
narrow (Struct fs) n = n
narrow (Cont f) n = tt
narrow (Exn e) n = n

all_narrow : (ts : List (SubType UnpackedIndex UnpackedIndex)) → total width ts < 2 ^ 30 → All HasShortLists ts
all_narrow [] n = All-nil HasShortLists
all_narrow (t ∷ ts) n = All-cons HasShortLists t ts (narrow t.composite.inner (omega (arith, n))) (all_narrow ts (omega (arith, n)))

pub short_types : (bytes : List ℕ) (m : Module) → Spells bytes m → length bytes < 2 ^ 30 → HasShortTypes m
short_types bytes m s short =
    let n = sections_few m 8 0 s.body s.are_sections in
    all_narrow (types m) (omega (arith, n, short, total_members (types m), ap length s.parts, length-append header s.body))
