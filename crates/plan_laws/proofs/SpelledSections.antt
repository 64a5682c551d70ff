-- The sections of a module weigh no more than their bytes.
use Rattle.std.proofs.Common.{◌≡◌, ◌≤◌, ◌+◌, ◌*◌, ◌==◌, ◌∙◌, ℕ, List, [], ◌∷◌, ◌++◌, length, Option, Some, None, sum_by, flat_map, refl, ap, arith, length-append}
use Rattle.std.specs.Prelude.{nat_le}
use Rattle.std.proofs.lemmas.List.Concat.{flat_map-append}
use Rattle.std.proofs.lemmas.List.Sums.{sum_by-append, sum_by-cons}
use Rattle.wasm_spec.specs.declared.types.UnpackedIndex.{UnpackedIndex}
use Rattle.wasm_spec.specs.Parts.{Part, unsigned, sized}
use Rattle.wasm_spec.specs.TypeData.{SubType, Group}
use Rattle.wasm_spec.specs.Module.{Payload, Types, Imports, FunctionTypes, Tables, Memories, Tags, Globals, Exports, Start, Elements, DataCount, Segments, Element, Segment, Module, groups, types, groups_of_section, imports_of_section, function_types_of_section, tables_of_section, memories_of_section, tags_of_section, globals_of_section, exports_of_section, elements_of_section, bodies_of_section, segments_of_section}
use Rattle.wasm_spec.specs.TypeGrammar.{group, memory_type, tag_type}
use Rattle.wasm_spec.specs.Grammar.{import_entry, export_entry, table_entry, global_entry, element_segment, body, data_segment, custom_contents, entries_as, number_as, code_at, section_contents, placed_section, order_of, section, next_order, SpellsSections, Spells, header}
use Rattle.plan_laws.proofs.ModuleContents.{member_parts, import_name_bytes, export_name_bytes, cell_operators, first_operators, element_operators, element_items, item_operators, segment_operators, segment_bytes, custom_bytes, counted, held}
use Rattle.plan_laws.proofs.SpelledParts.{Weighs, gives-weighs, nothing-weighs, number-weighs, then-weighs, choice-weighs, first-weighs, filled-weighs, sized-weighs, measured-weighs, sum_by-ones, sum_by-sucs, vector-weighs}
use Rattle.plan_laws.proofs.SpelledEntries.{name-weighs, group_weight, group-weighs, import-weighs, export-weighs, table-weighs, global-weighs, element_weight, element-weighs, body-weighs, segment_weight, segment-weighs, index-counts, memory-counts, tag-counts}

-- ---- what a section lists

abbrev members_of_section : Payload → List (SubType UnpackedIndex UnpackedIndex)
members_of_section p = flat_map (λ g. g) (groups_of_section p)

-- how many entries a section has
abbrev section_counted : Payload → ℕ
section_counted p =
    length (groups_of_section p) + length (members_of_section p) + length (imports_of_section p) + length (function_types_of_section p)
    + length (tables_of_section p) + length (memories_of_section p) + length (tags_of_section p)
    + length (globals_of_section p) + length (exports_of_section p) + length (elements_of_section p)
    + length (bodies_of_section p) + length (segments_of_section p)

-- what these entries hold
abbrev section_held : Payload → ℕ
section_held p =
    sum_by member_parts (members_of_section p) + sum_by import_name_bytes (imports_of_section p) + sum_by export_name_bytes (exports_of_section p)
    + sum_by cell_operators (tables_of_section p) + sum_by first_operators (globals_of_section p)
    + sum_by element_operators (elements_of_section p) + sum_by element_items (elements_of_section p)
    + sum_by item_operators (elements_of_section p)
    + sum_by segment_operators (segments_of_section p) + sum_by segment_bytes (segments_of_section p) + custom_bytes p

-- a member of a group is counted in its list, and has its parts
groups-sum : (gs : List (Group UnpackedIndex UnpackedIndex))
    → sum_by group_weight gs ≡ length gs + length (flat_map (λ g. g) gs) + sum_by member_parts (flat_map (λ g. g) gs)
groups-sum [] = refl
groups-sum (g ∷ gs) =
    let members = flat_map (λ (h : Group UnpackedIndex UnpackedIndex). h) gs in
    let others = groups-sum gs in
    omega (
      arith,
      others,
      sum_by-cons group_weight g gs,
      sum_by-sucs member_parts g,
      length-append g members,
      sum_by-append member_parts g members,
    )

elements-sum : (es : List Element)
    → sum_by element_weight es ≡ length es + sum_by element_operators es + sum_by element_items es + sum_by item_operators es
elements-sum [] = refl
elements-sum (e ∷ es) =
    let others = elements-sum es in
    omega (
      arith,
      others,
      sum_by-cons element_weight e es,
      sum_by-cons element_operators e es,
      sum_by-cons element_items e es,
      sum_by-cons item_operators e es,
    )

segments-sum : (ss : List Segment) → sum_by segment_weight ss ≡ length ss + sum_by segment_operators ss + sum_by segment_bytes ss
segments-sum [] = refl
segments-sum (s ∷ ss) =
    let others = segments-sum ss in
    omega (arith, others, sum_by-cons segment_weight s ss, sum_by-cons segment_operators s ss, sum_by-cons segment_bytes s ss)

-- ---- one section

-- the byte of the id came before; the size takes a byte
abbrev section_weight : Payload → ℕ
section_weight p = 2 + section_counted p + section_held p

entries-weigh : {A : Type 0} {weight : A → ℕ} (part : Part A) (make : List A → Payload) → Weighs 0 weight part
    → ((xs : List A) → section_counted (make xs) + section_held (make xs) ≤ sum_by weight xs) → Weighs 1 section_weight (entries_as part make)
entries-weigh part make one few = sized-weighs _ (then-weighs (vector-weighs part 2 one) (λ xs. gives-weighs _ (omega (arith, few xs))))

number-weigh : (make : ℕ → Payload) → ((n : ℕ) → section_counted (make n) + section_held (make n) ≡ 0) → Weighs 1 section_weight (number_as make)
number-weigh make none = sized-weighs _ (then-weighs (number-weighs 2 32) (λ n. gives-weighs _ (omega (arith, none n))))

code-weighs : (place : ℕ) → Weighs 1 section_weight (code_at place)
code-weighs place = then-weighs (measured-weighs (λ n. 2) (unsigned 32) (number-weighs 1 32)) (λ size. filled-weighs _ size.0
    (then-weighs (vector-weighs body 2 body-weighs) (λ bodies. gives-weighs _ (omega (arith, sum_by-ones bodies)))))

customs-weigh : Weighs 1 section_weight (sized custom_contents)
customs-weigh = sized-weighs _ (then-weighs (name-weighs 2) (λ name. record { within = λ bytes p s. omega (arith, ap section_weight s) }))

contents-weigh : (place id : ℕ) → Weighs 1 section_weight (section_contents place id)
contents-weigh place id =
    choice-weighs (id == 1) _ _ (entries-weigh group Types group-weighs (λ xs. omega (arith, groups-sum xs)))
    (choice-weighs (id == 2) _ _ (entries-weigh import_entry Imports import-weighs (λ xs. omega (arith, sum_by-sucs import_name_bytes xs)))
    (choice-weighs (id == 3) _ _ (entries-weigh (unsigned 32) FunctionTypes index-counts (λ xs. omega (arith, sum_by-ones xs)))
    (choice-weighs (id == 4) _ _ (entries-weigh table_entry Tables table-weighs (λ xs. omega (arith, sum_by-sucs cell_operators xs)))
    (choice-weighs (id == 5) _ _ (entries-weigh memory_type Memories memory-counts (λ xs. omega (arith, sum_by-ones xs)))
    (choice-weighs (id == 13) _ _ (entries-weigh tag_type Tags tag-counts (λ xs. omega (arith, sum_by-ones xs)))
    (choice-weighs (id == 6) _ _ (entries-weigh global_entry Globals global-weighs (λ xs. omega (arith, sum_by-sucs first_operators xs)))
    (choice-weighs (id == 7) _ _ (entries-weigh export_entry Exports export-weighs (λ xs. omega (arith, sum_by-sucs export_name_bytes xs)))
    (choice-weighs (id == 8) _ _ (number-weigh Start (λ n. refl))
    (choice-weighs (id == 9) _ _ (entries-weigh element_segment Elements element-weighs (λ xs. omega (arith, elements-sum xs)))
    (choice-weighs (id == 12) _ _ (number-weigh DataCount (λ n. refl))
    (choice-weighs (id == 10) _ _ (code-weighs place)
    (choice-weighs (id == 11) _ _ (entries-weigh data_segment Segments segment-weighs (λ xs. omega (arith, segments-sum xs))) nothing-weighs))))))))))))

placed-weighs : (place next id : ℕ) (order : Option ℕ) → Weighs 1 section_weight (placed_section place next id order)
placed-weighs place next id None = nothing-weighs
placed-weighs place next id (Some order) = choice-weighs (nat_le next order) _ _ (contents-weigh (place + 1) id) nothing-weighs

section-weighs : (place next : ℕ) → Weighs 0 section_weight (section place next)
section-weighs place next = first-weighs _ (λ id. choice-weighs (id == 0) _ _ customs-weigh (placed-weighs place next id (order_of id)))

-- ---- all sections

-- the types of a module are those of its first section and those of the others
types-more : (p : Payload) (ps : Module) → types (p ∷ ps) ≡ members_of_section p ++ types ps
types-more p ps = flat_map-append (λ (g : Group UnpackedIndex UnpackedIndex). g) (groups_of_section p) (groups ps)

-- of one list, the entries of the first section and those of the others
one-list : {A : Type 0} (list : Payload → List A) (p : Payload) (ps : Module)
    → length (flat_map list (p ∷ ps)) ≡ length (list p) + length (flat_map list ps)
one-list list p ps = length-append (list p) (flat_map list ps)

-- and what they hold
one-sum : {A : Type 0} (weight : A → ℕ) (list : Payload → List A) (p : Payload) (ps : Module)
    → sum_by weight (flat_map list (p ∷ ps)) ≡ sum_by weight (list p) + sum_by weight (flat_map list ps)
one-sum weight list p ps = sum_by-append weight (list p) (flat_map list ps)

counted-more : (p : Payload) (ps : Module) → counted (p ∷ ps) ≡ section_counted p + counted ps
counted-more p ps =
    let all-types = ap length (types-more p ps) ∙ length-append (members_of_section p) (types ps) in
    omega (
      arith,
      all-types,
      one-list groups_of_section p ps,
      one-list imports_of_section p ps,
      one-list function_types_of_section p ps,
      one-list tables_of_section p ps,
      one-list memories_of_section p ps,
      one-list tags_of_section p ps,
      one-list globals_of_section p ps,
      one-list exports_of_section p ps,
      one-list elements_of_section p ps,
      one-list bodies_of_section p ps,
      one-list segments_of_section p ps,
    )

held-more : (p : Payload) (ps : Module) → held (p ∷ ps) ≡ section_held p + held ps
held-more p ps =
    let all-types = ap (sum_by member_parts) (types-more p ps) ∙ sum_by-append member_parts (members_of_section p) (types ps) in
    omega (
      arith,
      all-types,
      one-sum import_name_bytes imports_of_section p ps,
      one-sum export_name_bytes exports_of_section p ps,
      one-sum cell_operators tables_of_section p ps,
      one-sum first_operators globals_of_section p ps,
      one-sum element_operators elements_of_section p ps,
      one-sum element_items elements_of_section p ps,
      one-sum item_operators elements_of_section p ps,
      one-sum segment_operators segments_of_section p ps,
      one-sum segment_bytes segments_of_section p ps,
      sum_by-cons custom_bytes p ps,
    )

sections-weigh : (ps : Module) (place next : ℕ) (bytes : List ℕ) → SpellsSections place next bytes ps
    → 2 * length ps + counted ps + held ps ≤ length bytes
sections-weigh [] place next bytes s = omega arith
sections-weigh (p ∷ ps) place next bytes (front, back, parts, is, later) =
    let one = (section-weighs place next).within front p is in
    let others = sections-weigh ps (place + length front) (next_order next p) back later in
    omega (arith, one, others, counted-more p ps, held-more p ps, ap length parts, length-append front back)

-- the header has 8 bytes
pub module-weighs : {bytes : List ℕ} {m : Module} → Spells bytes m → 8 + 2 * length m + counted m + held m ≤ length bytes
module-weighs {m = m} s =
    let sections = sections-weigh m 8 0 s.body s.are_sections in
    omega (arith, sections, ap length s.parts, length-append header s.body)
