-- What a section of a kind has, and what others have not.
use Rattle.std.proofs.Common.{◌≡◌, ℕ, ◌+◌, List, [], ◌∷◌, ◌++◌, length, All, Some, Bool, true, false, refl, sym, ap, subst, ◌∙◌, inl, inr}
use Rattle.std.specs.Prelude.{◌≢◌, ◌⊎◌, nat_le}
use Rattle.std.specs.List.{flat_map}
use Rattle.std.proofs.lemmas.List.{append-nil}
use Rattle.std.proofs.lemmas.List.Elements.{All-head, All-tail}
use Rattle.wasm_spec.specs.Module as plain
use Rattle.wasm_spec.specs.Module.{Payload, Module, Types, Imports, FunctionTypes, Tables, Memories, Tags, Globals, Exports, Start, Elements, DataCount, Code, Segments}
use Rattle.wasm_spec.specs.Parts as part
use Rattle.wasm_spec.specs.Parts.{Part, Joined}
use Rattle.wasm_spec.specs.Grammar as grammar
use Rattle.wasm_spec.specs.Grammar.{section_id, order_of}
use Rattle.wasm_spec.specs.TypeGrammar as types
use Rattle.form_reader.specs.Reading.{Reader}
use Rattle.form_reader.specs.Agrees.{Agrees}
use Rattle.form_reader.specs.Rows.{unsigned}
use Rattle.form_reader.specs.TypeRows.{group, memory_type, tag_type}
use Rattle.form_reader.specs.SectionRows.{import_entry, table_entry, global_entry, export_entry, element_segment, body, data_segment}
use Rattle.refusal_place.specs.declared.kind.SectionKind.{SectionKind}
use Rattle.refusal_place.specs.declared.kind.SectionKind.TheVariants as kind
use Rattle.refusal_place.specs.Kinds.{id_of, OfEntries}
use Rattle.refusal_place.specs.Entries.{ListsNothing}
use Rattle.refusal_place.specs.Listed.{listed_count}

-- ---- how many entries a section lists

abbrev pub count_in : SectionKind → Payload → ℕ
count_in kind.Type p = length (plain.groups_of_section p)
count_in kind.Import p = length (plain.imports_of_section p)
count_in kind.Function p = length (plain.function_types_of_section p)
count_in kind.Table p = length (plain.tables_of_section p)
count_in kind.Memory p = length (plain.memories_of_section p)
count_in kind.Tag p = length (plain.tags_of_section p)
count_in kind.Global p = length (plain.globals_of_section p)
count_in kind.Export p = length (plain.exports_of_section p)
count_in kind.Element p = length (plain.elements_of_section p)
count_in kind.Code p = length (plain.bodies_of_section p)
count_in kind.Data p = length (plain.segments_of_section p)
count_in kind.Custom p = 0
count_in kind.Start p = 0
count_in kind.DataCount p = 0

-- sections of other kinds list nothing
other_groups : (q : Payload) → section_id q ≢ 1 → plain.groups_of_section q ≡ []
other_groups (Types groups) other = absurd (other refl)
other_groups q other = refl

other_imports : (q : Payload) → section_id q ≢ 2 → plain.imports_of_section q ≡ []
other_imports (Imports imports) other = absurd (other refl)
other_imports q other = refl

other_function_types : (q : Payload) → section_id q ≢ 3 → plain.function_types_of_section q ≡ []
other_function_types (FunctionTypes types) other = absurd (other refl)
other_function_types q other = refl

other_tables : (q : Payload) → section_id q ≢ 4 → plain.tables_of_section q ≡ []
other_tables (Tables tables) other = absurd (other refl)
other_tables q other = refl

other_memories : (q : Payload) → section_id q ≢ 5 → plain.memories_of_section q ≡ []
other_memories (Memories types) other = absurd (other refl)
other_memories q other = refl

other_tags : (q : Payload) → section_id q ≢ 13 → plain.tags_of_section q ≡ []
other_tags (Tags types) other = absurd (other refl)
other_tags q other = refl

other_globals : (q : Payload) → section_id q ≢ 6 → plain.globals_of_section q ≡ []
other_globals (Globals globals) other = absurd (other refl)
other_globals q other = refl

other_exports : (q : Payload) → section_id q ≢ 7 → plain.exports_of_section q ≡ []
other_exports (Exports exports) other = absurd (other refl)
other_exports q other = refl

other_elements : (q : Payload) → section_id q ≢ 9 → plain.elements_of_section q ≡ []
other_elements (Elements elements) other = absurd (other refl)
other_elements q other = refl

other_bodies : (q : Payload) → section_id q ≢ 10 → plain.bodies_of_section q ≡ []
other_bodies (Code place bodies) other = absurd (other refl)
other_bodies q other = refl

other_segments : (q : Payload) → section_id q ≢ 11 → plain.segments_of_section q ≡ []
other_segments (Segments segments) other = absurd (other refl)
other_segments q other = refl

module _ {A : Type 0} (f : Payload → List A) (id : ℕ) (others : (q : Payload) → section_id q ≢ id → f q ≡ []) where
  none_has : (m : Module) → All (λ q. section_id q ≢ id) m → flat_map f m ≡ []
  none_has [] all = refl
  none_has (q ∷ qs) all =
      ap (λ (l : List A). l ++ flat_map f qs) (others q (All-head (λ q. section_id q ≢ id) q qs all)) ∙ none_has qs (All-tail (λ q. section_id q ≢ id) q qs all)

  one_has : (before : Module) (p : Payload) (after : Module) → All (λ q. section_id q ≢ id) before → All (λ q. section_id q ≢ id) after
      → flat_map f (before ++ p ∷ after) ≡ f p
  one_has [] p after none all = ap (λ (l : List A). f p ++ l) (none_has after all) ∙ append-nil (f p)
  one_has (q ∷ qs) p after none all =
      ap (λ (l : List A). l ++ flat_map f (qs ++ p ∷ after)) (others q (All-head (λ q. section_id q ≢ id) q qs none))
      ∙ one_has qs p after (All-tail (λ q. section_id q ≢ id) q qs none) all

-- without a section of the kind nothing is listed
pub none_listed : (k : SectionKind) (m : Module) → All (λ q. section_id q ≢ id_of k) m → listed_count k m ≡ 0
none_listed kind.Type m all = ap length (none_has plain.groups_of_section 1 other_groups m all)
none_listed kind.Import m all = ap length (none_has plain.imports_of_section 2 other_imports m all)
none_listed kind.Function m all = ap length (none_has plain.function_types_of_section 3 other_function_types m all)
none_listed kind.Table m all = ap length (none_has plain.tables_of_section 4 other_tables m all)
none_listed kind.Memory m all = ap length (none_has plain.memories_of_section 5 other_memories m all)
none_listed kind.Tag m all = ap length (none_has plain.tags_of_section 13 other_tags m all)
none_listed kind.Global m all = ap length (none_has plain.globals_of_section 6 other_globals m all)
none_listed kind.Export m all = ap length (none_has plain.exports_of_section 7 other_exports m all)
none_listed kind.Element m all = ap length (none_has plain.elements_of_section 9 other_elements m all)
none_listed kind.Code m all = ap length (none_has plain.bodies_of_section 10 other_bodies m all)
none_listed kind.Data m all = ap length (none_has plain.segments_of_section 11 other_segments m all)
none_listed kind.Custom m all = refl
none_listed kind.Start m all = refl
none_listed kind.DataCount m all = refl

-- what one section of the kind lists is all
pub one_lists : (k : SectionKind) (before : Module) (p : Payload) (after : Module) → All (λ q. section_id q ≢ id_of k) before
    → All (λ q. section_id q ≢ id_of k) after → listed_count k (before ++ p ∷ after) ≡ count_in k p
one_lists kind.Type before p after none all = ap length (one_has plain.groups_of_section 1 other_groups before p after none all)
one_lists kind.Import before p after none all = ap length (one_has plain.imports_of_section 2 other_imports before p after none all)
one_lists kind.Function before p after none all = ap length (one_has plain.function_types_of_section 3 other_function_types before p after none all)
one_lists kind.Table before p after none all = ap length (one_has plain.tables_of_section 4 other_tables before p after none all)
one_lists kind.Memory before p after none all = ap length (one_has plain.memories_of_section 5 other_memories before p after none all)
one_lists kind.Tag before p after none all = ap length (one_has plain.tags_of_section 13 other_tags before p after none all)
one_lists kind.Global before p after none all = ap length (one_has plain.globals_of_section 6 other_globals before p after none all)
one_lists kind.Export before p after none all = ap length (one_has plain.exports_of_section 7 other_exports before p after none all)
one_lists kind.Element before p after none all = ap length (one_has plain.elements_of_section 9 other_elements before p after none all)
one_lists kind.Code before p after none all = ap length (one_has plain.bodies_of_section 10 other_bodies before p after none all)
one_lists kind.Data before p after none all = ap length (one_has plain.segments_of_section 11 other_segments before p after none all)
one_lists kind.Custom before p after none all = refl
one_lists kind.Start before p after none all = refl
one_lists kind.DataCount before p after none all = refl

-- a kind lists nothing, or its sections have an order
pub has_order : (k : SectionKind) → ((m : Module) → listed_count k m ≡ 0) ⊎ ((order : ℕ) × (order_of (id_of k) ≡ Some order))
has_order kind.Type = inr (0, refl)
has_order kind.Import = inr (1, refl)
has_order kind.Function = inr (2, refl)
has_order kind.Table = inr (3, refl)
has_order kind.Memory = inr (4, refl)
has_order kind.Tag = inr (5, refl)
has_order kind.Global = inr (6, refl)
has_order kind.Export = inr (7, refl)
has_order kind.Element = inr (9, refl)
has_order kind.Code = inr (11, refl)
has_order kind.Data = inr (12, refl)
has_order kind.Custom = inl (λ m. refl)
has_order kind.Start = inl (λ m. refl)
has_order kind.DataCount = inl (λ m. refl)

pub nothing_listed : (k : SectionKind) (m : Module) → ListsNothing k → listed_count k m ≡ 0
nothing_listed k m (inl is) = ap (λ (k : SectionKind). listed_count k m) is
nothing_listed k m (inr (inl is)) = ap (λ (k : SectionKind). listed_count k m) is
nothing_listed k m (inr (inr is)) = ap (λ (k : SectionKind). listed_count k m) is

-- ---- the contents of a section

-- the contents are a list of so many entries
pub record Counts {A : Type 0} (p : Part A) (contents : List ℕ) (count : ℕ) : Type 0 where
  pub entries : List A
  pub spelled : (part.vector p).spells contents entries
  pub count_is : count ≡ length entries

-- what follows the id of a section: a size, and contents that it counts
pub record Holds (k : SectionKind) (sized : List ℕ) (p : Payload) : Type 0 where
  pub number : List ℕ
  pub contents : List ℕ
  pub parts : sized ≡ number ++ contents
  pub size_is : (part.unsigned 32).spells number (length contents)
  pub lists : ListsNothing k ⊎ OfEntries k (λ A g. Counts g contents (count_in k p))

module _ (k : SectionKind) (sized number contents : List ℕ) (size : ℕ) (p : Payload) (parts : sized ≡ number ++ contents)
    (spelled : (part.unsigned 32).spells number size) (long : length contents ≡ size) where
  size_is : (part.unsigned 32).spells number (length contents)
  size_is = subst ((part.unsigned 32).spells number) (sym long) spelled

  nothing_held : ListsNothing k → Holds k sized p
  nothing_held none = record { number = number; contents = contents; parts = parts; size_is = size_is; lists = inl none }

  module _ {A : Type 0} (g : Part A) (make : List A → Payload) (of : (P : (B : Type 0) → Part B → Type 0) → P A g → OfEntries k P)
      (count : (xs : List A) → count_in k (make xs) ≡ length xs) where
    entries_held : Joined (part.vector g) (λ xs. part.gives (make xs)) contents p → Holds k sized p
    entries_held s =
        let all : contents ≡ s.front = s.parts ∙ ap (λ (l : List ℕ). s.front ++ l) s.is_second.0 ∙ append-nil s.front in
        let P : List ℕ → Type 0 = λ l. (part.vector g).spells l s.value in
        let counts : Counts g contents (count_in k p) =
        record { entries = s.value; spelled = subst P (sym all) s.is_first; count_is = ap (count_in k) s.is_second.1 ∙ count s.value } in
        record {
          number = number;
          contents = contents;
          parts = parts;
          size_is = size_is;
          lists = inr (of (λ B h. Counts h contents (count_in k p)) counts);
        }

module _ (k : SectionKind) (sized : List ℕ) (p : Payload) where
  held_entries : {A : Type 0} (g : Part A) (make : List A → Payload) → ((P : (B : Type 0) → Part B → Type 0) → P A g → OfEntries k P)
      → ((xs : List A) → count_in k (make xs) ≡ length xs) → (grammar.entries_as g make).spells sized p → Holds k sized p
  held_entries g make of count s =
      entries_held k sized s.front s.back s.value p s.parts s.is_first s.is_second.0 g make of count s.is_second.1

  held_nothing : {A : Part Payload} → ListsNothing k → (part.sized A).spells sized p → Holds k sized p
  held_nothing none s = nothing_held k sized s.front s.back s.value p s.parts s.is_first s.is_second.0 none

  chosen : (test : Bool) (g : Part Payload) → (part.choose test g part.nothing).spells sized p → g.spells sized p
  chosen true g s = s
  chosen false g s = absurd s

code_held : (place : ℕ) (sized : List ℕ) (p : Payload) → (grammar.code_at place).spells sized p → Holds kind.Code sized p
code_held place sized p s =
    entries_held kind.Code sized s.front s.back s.value.0 p s.parts s.is_first.0 s.is_second.0 grammar.body (Code (place + s.value.1)) (λ P h. h) (λ xs. refl)
    s.is_second.1

-- what is spelled after the id of a kind
pub holds : (k : SectionKind) (place next : ℕ) (sized : List ℕ) (p : Payload) → (grammar.section place next).spells (id_of k ∷ sized) p → Holds k sized p
holds kind.Custom place next sized p s = held_nothing kind.Custom sized p (inl refl) s
holds kind.Type place next sized p s = held_entries kind.Type sized p types.group Types (λ P h. h) (λ xs. refl) (chosen kind.Type sized p (nat_le next 0) _ s)
holds kind.Import place next sized p s = held_entries kind.Import sized p grammar.import_entry Imports (λ P h. h) (λ xs. refl) (chosen kind.Import sized p (nat_le next 1) _ s)
holds kind.Function place next sized p s = held_entries kind.Function sized p (part.unsigned 32) FunctionTypes (λ P h. h) (λ xs. refl) (chosen kind.Function sized p (nat_le next 2) _ s)
holds kind.Table place next sized p s = held_entries kind.Table sized p grammar.table_entry Tables (λ P h. h) (λ xs. refl) (chosen kind.Table sized p (nat_le next 3) _ s)
holds kind.Memory place next sized p s = held_entries kind.Memory sized p types.memory_type Memories (λ P h. h) (λ xs. refl) (chosen kind.Memory sized p (nat_le next 4) _ s)
holds kind.Tag place next sized p s = held_entries kind.Tag sized p types.tag_type Tags (λ P h. h) (λ xs. refl) (chosen kind.Tag sized p (nat_le next 5) _ s)
holds kind.Global place next sized p s = held_entries kind.Global sized p grammar.global_entry Globals (λ P h. h) (λ xs. refl) (chosen kind.Global sized p (nat_le next 6) _ s)
holds kind.Export place next sized p s = held_entries kind.Export sized p grammar.export_entry Exports (λ P h. h) (λ xs. refl) (chosen kind.Export sized p (nat_le next 7) _ s)
holds kind.Element place next sized p s = held_entries kind.Element sized p grammar.element_segment Elements (λ P h. h) (λ xs. refl) (chosen kind.Element sized p (nat_le next 9) _ s)
holds kind.Code place next sized p s = code_held (place + 1) sized p (chosen kind.Code sized p (nat_le next 11) _ s)
holds kind.Data place next sized p s = held_entries kind.Data sized p grammar.data_segment Segments (λ P h. h) (λ xs. refl) (chosen kind.Data sized p (nat_le next 12) _ s)
holds kind.Start place next sized p s = held_nothing kind.Start sized p (inr (inl refl)) (chosen kind.Start sized p (nat_le next 8) _ s)
holds kind.DataCount place next sized p s = held_nothing kind.DataCount sized p (inr (inr refl)) (chosen kind.DataCount sized p (nat_le next 10) _ s)

-- ---- two facts of what a kind lists

pub both : (k : SectionKind) (P R : (A : Type 0) → Part A → Type 0) (Q : Type 0)
    → ((A : Type 0) (read : Reader A) (g : Part A) → Agrees read g → P A g → R A g → Q) → OfEntries k P → OfEntries k R → Q
both kind.Type P R Q h p r = h _ _ _ group.agrees p r
both kind.Import P R Q h p r = h _ _ _ import_entry.agrees p r
both kind.Function P R Q h p r = h _ _ _ (unsigned 32).agrees p r
both kind.Table P R Q h p r = h _ _ _ table_entry.agrees p r
both kind.Memory P R Q h p r = h _ _ _ memory_type.agrees p r
both kind.Tag P R Q h p r = h _ _ _ tag_type.agrees p r
both kind.Global P R Q h p r = h _ _ _ global_entry.agrees p r
both kind.Export P R Q h p r = h _ _ _ export_entry.agrees p r
both kind.Element P R Q h p r = h _ _ _ element_segment.agrees p r
both kind.Code P R Q h p r = h _ _ _ body.agrees p r
both kind.Data P R Q h p r = h _ _ _ data_segment.agrees p r
both kind.Custom P R Q h p r = absurd p
both kind.Start P R Q h p r = absurd p
both kind.DataCount P R Q h p r = absurd p
