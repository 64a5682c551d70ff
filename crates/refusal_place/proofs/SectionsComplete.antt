-- The list has each section of a module.
use Rattle.std.proofs.Common.{◌≡◌, ℕ, ◌+◌, ◌<◌, ◌^◌, List, [], ◌∷◌, ◌++◌, length, map, take, drop, Option, Some, None, Bool, true, false, refl, sym, ap, subst, ◌∙◌, append_assoc, arith}
use Rattle.std.specs.Prelude.{◌==◌, nat_le}
use Rattle.std.proofs.lemmas.Bool.{eqb-true}
use Rattle.std.proofs.lemmas.List.{drop_at, take_at, length-append}
use Rattle.wasm_spec.specs.Numbers.{SpellsUnsigned}
use Rattle.wasm_spec.specs.Parts.{Part, choose, nothing, sized, unsigned}
use Rattle.wasm_spec.specs.Module.{Module, Payload, Types, Imports, FunctionTypes, Tables, Memories, Tags, Globals, Exports, Start, Elements, DataCount, Segments}
use Rattle.wasm_spec.specs.TypeGrammar.{group, memory_type, tag_type}
use Rattle.wasm_spec.specs.Grammar.{section, section_id, section_contents, placed_section, code_at, custom_contents, entries_as, number_as, order_of, next_order, import_entry, table_entry, global_entry, export_entry, element_segment, data_segment, Spells, SpellsSections}
use Rattle.form_reader.specs.ReadingNumbers.{unsigned_at}
use Rattle.form_reader.specs.Agrees.{ok_is}
use Rattle.refusal_place.specs.declared.section_list.SectionPlace.{SectionPlace}
use Rattle.refusal_place.specs.SectionList.{AreSections, HasName, IsSection, IsSectionList, name_of}
use Rattle.refusal_place.proofs.SectionParts.{pair_is, size_again}

-- ---- a section that is spelled has an id, a size and contents

record HasSize (bytes : List ℕ) (p : Payload) (id : ℕ) : Type 0 where
  number : List ℕ
  contents : List ℕ
  parts : bytes ≡ number ++ contents
  size_is : SpellsUnsigned 32 number (length contents)
  id_is : section_id p ≡ id

module _ (bytes : List ℕ) (p : Payload) where
  of_list : {A : Type 0} (part : Part A) (make : List A → Payload) (id : ℕ) → ((x : List A) → section_id (make x) ≡ id)
      → (entries_as part make).spells bytes p → HasSize bytes p id
  of_list part make id is s = record {
    number = s.front;
    contents = s.back;
    parts = s.parts;
    size_is = subst (SpellsUnsigned 32 s.front) (sym s.is_second.0) s.is_first;
    id_is = ap section_id s.is_second.1.is_second.1 ∙ is s.is_second.1.value;
  }

  of_number : (make : ℕ → Payload) (id : ℕ) → ((x : ℕ) → section_id (make x) ≡ id) → (number_as make).spells bytes p → HasSize bytes p id
  of_number make id is s = record {
    number = s.front;
    contents = s.back;
    parts = s.parts;
    size_is = subst (SpellsUnsigned 32 s.front) (sym s.is_second.0) s.is_first;
    id_is = ap section_id s.is_second.1.is_second.1 ∙ is s.is_second.1.value;
  }

  of_code : (place : ℕ) → (code_at place).spells bytes p → HasSize bytes p 10
  of_code place s = record {
    number = s.front;
    contents = s.back;
    parts = s.parts;
    size_is = subst (SpellsUnsigned 32 s.front) (sym s.is_second.0) s.is_first.0;
    id_is = ap section_id s.is_second.1.is_second.1;
  }

  of_custom : (sized custom_contents).spells bytes p → HasSize bytes p 0
  of_custom s = record {
    number = s.front;
    contents = s.back;
    parts = s.parts;
    size_is = subst (SpellsUnsigned 32 s.front) (sym s.is_second.0) s.is_first;
    id_is = ap section_id s.is_second.1.is_second;
  }

  -- one of two parts, by the id
  by_id : (id n : ℕ) (one other : Part Payload) → (one.spells bytes p → HasSize bytes p n) → (other.spells bytes p → HasSize bytes p id)
      → (choose (id == n) one other).spells bytes p → HasSize bytes p id
  by_id id n one other is is_other = by (id == n) refl where
    by : (t : Bool) → (id == n) ≡ t → (choose t one other).spells bytes p → HasSize bytes p id
    by true e s = subst (HasSize bytes p) (sym (eqb-true id n e)) (is s)
    by false e s = is_other s

  of_contents : (place id : ℕ) → (section_contents place id).spells bytes p → HasSize bytes p id
  of_contents place id =
      by_id id 1 _ _ (of_list group Types 1 (λ x. refl))
      (by_id id 2 _ _ (of_list import_entry Imports 2 (λ x. refl))
      (by_id id 3 _ _ (of_list (unsigned 32) FunctionTypes 3 (λ x. refl))
      (by_id id 4 _ _ (of_list table_entry Tables 4 (λ x. refl))
      (by_id id 5 _ _ (of_list memory_type Memories 5 (λ x. refl))
      (by_id id 13 _ _ (of_list tag_type Tags 13 (λ x. refl))
      (by_id id 6 _ _ (of_list global_entry Globals 6 (λ x. refl))
      (by_id id 7 _ _ (of_list export_entry Exports 7 (λ x. refl))
      (by_id id 8 _ _ (of_number Start 8 (λ x. refl))
      (by_id id 9 _ _ (of_list element_segment Elements 9 (λ x. refl))
      (by_id id 12 _ _ (of_number DataCount 12 (λ x. refl))
      (by_id id 10 _ _ (of_code place)
      (by_id id 11 _ _ (of_list data_segment Segments 11 (λ x. refl)) (λ never. absurd never)))))))))))))

  of_placed : (place next id : ℕ) (o : Option ℕ) → (placed_section place next id o).spells bytes p → HasSize bytes p id
  of_placed place next id None s = absurd s
  of_placed place next id (Some order) s = by (nat_le next order) s where
    by : (t : Bool) → (choose t (section_contents (place + 1) id) nothing).spells bytes p → HasSize bytes p id
    by true s = of_contents (place + 1) id s
    by false s = absurd s

record IsWhole (bytes : List ℕ) (p : Payload) : Type 0 where
  number : List ℕ
  contents : List ℕ
  parts : bytes ≡ section_id p ∷ (number ++ contents)
  size_is : SpellsUnsigned 32 number (length contents)

is_whole : (place next : ℕ) (bytes : List ℕ) (p : Payload) → (section place next).spells bytes p → IsWhole bytes p
is_whole place next [] p s = absurd s
is_whole place next (id ∷ bytes) p s =
    let h = by_id bytes p id 0 (sized custom_contents) (placed_section place next id (order_of id)) (of_custom bytes p)
    (of_placed bytes p place next id (order_of id)) s in
    record {
      number = h.number;
      contents = h.contents;
      parts = ap (λ (l : List ℕ). id ∷ l) h.parts ∙ ap (λ (n : ℕ). n ∷ (h.number ++ h.contents)) (sym h.id_is);
      size_is = h.size_is;
    }

-- ---- one section after another

-- two sections with the same bytes after their ids have the same contents
same_parts : (number contents later other inside after : List ℕ) → SpellsUnsigned 32 number (length contents) → SpellsUnsigned 32 other (length inside)
    → number ++ (contents ++ later) ≡ other ++ (inside ++ after) → (length contents ≡ length inside) × (contents ++ later ≡ inside ++ after)
same_parts number contents later other inside after size other_size same =
    pair_is (length contents, contents ++ later) (length inside, inside ++ after)
    (ok_is (length contents, contents ++ later) (length inside, inside ++ after)
    (sym (size_again number contents later size) ∙ ap (unsigned_at 32) same ∙ size_again other inside after other_size))

same_later : (contents later inside after : List ℕ) → length contents ≡ length inside → contents ++ later ≡ inside ++ after → later ≡ after
same_later contents later inside after long same =
    sym (drop_at contents later (length contents) refl) ∙ ap (drop (length contents)) same ∙ drop_at inside after (length contents) (sym long)

first_is : (b c : ℕ) (xs ys : List ℕ) → b ∷ xs ≡ c ∷ ys → (b ≡ c) × (xs ≡ ys)
first_is b c xs ys e = (cc, ap (drop 1) e)

-- what a section is, by the bytes
pub same_section : (start : ℕ) (rest : List ℕ) (p : SectionPlace) (more : List ℕ) → IsSection start rest p more
    → (id : ℕ) (number contents later : List ℕ) → rest ≡ id ∷ (number ++ (contents ++ later)) → SpellsUnsigned 32 number (length contents)
    → (p.id ≡ id) × (p.contents ≡ start + 1 + length number) × (p.size ≡ length contents) × (more ≡ later) × HasName id contents (name_of p)
same_section start rest p more s id number contents later parts size =
    let both = first_is p.id id (s.number ++ (s.contents ++ more)) (number ++ (contents ++ later)) (sym s.parts ∙ parts) in
    let inside = same_parts s.number s.contents more number contents later s.size_is size both.1 in
    let same = same_later s.contents more contents later inside.0 inside.1 in
    let is : s.contents ≡ contents =
    sym (take_at s.contents more (length s.contents) refl) ∙ ap (take (length s.contents)) inside.1 ∙ take_at contents later (length s.contents) (sym inside.0) in
    let long : length s.number ≡ length number = omega (arith, ap length both.1, length-append s.number (s.contents ++ more), length-append number (contents ++ later), ap length inside.1) in (
      both.0,
      omega (arith, s.places.1, long),
      s.places.2 ∙ inside.0,
      same,
      let P : ℕ → Type 0 = λ n. HasName n contents (name_of p) in
          let Q : List ℕ → Type 0 = λ l. HasName p.id l (name_of p) in
          subst P both.0 (subst Q is s.name_is),
    )

ids_are : (m : Module) (places : List SectionPlace) (place next start : ℕ) (rest : List ℕ) → SpellsSections place next rest m → AreSections start rest places
    → map (λ p. p.id) places ≡ map section_id m
ids_are [] [] place next start rest s are = refl
ids_are [] (q ∷ qs) place next start rest s (later, is, are) =
    absurd (let both : [] ≡ q.id ∷ (is.number ++ (is.contents ++ later)) = sym s ∙ is.parts in cc)
ids_are (p ∷ ps) [] place next start rest (front, back, parts, is, others) none =
    let w = is_whole place next front p is in
    absurd (none (section_id p) w.number w.contents back (parts ∙ ap (λ (l : List ℕ). l ++ back) w.parts
    ∙ ap (λ (l : List ℕ). section_id p ∷ l) (append_assoc w.number w.contents back)) w.size_is)
ids_are (p ∷ ps) (q ∷ qs) place next start rest (front, back, parts, is, others) (later, s, are) =
    let w = is_whole place next front p is in
    let all : q.id ∷ (s.number ++ (s.contents ++ later)) ≡ section_id p ∷ (w.number ++ (w.contents ++ back)) =
    sym s.parts ∙ parts ∙ ap (λ (l : List ℕ). l ++ back) w.parts ∙ ap (λ (l : List ℕ). section_id p ∷ l) (append_assoc w.number w.contents back) in
    let both = first_is q.id (section_id p) (s.number ++ (s.contents ++ later)) (w.number ++ (w.contents ++ back)) all in
    let inside = same_parts s.number s.contents later w.number w.contents back s.size_is w.size_is both.1 in
    let same = same_later s.contents later w.contents back inside.0 inside.1 in
    let there : AreSections (q.contents + q.size) back qs = let P : List ℕ → Type 0 = λ l. AreSections (q.contents + q.size) l qs in subst P same are in
    ap (λ (n : ℕ). n ∷ map (λ p. p.id) qs) both.0
    ∙ ap (λ (l : List ℕ). section_id p ∷ l) (ids_are ps qs (place + length front) (next_order next p) (q.contents + q.size) back others there)

pub lists_all : (bytes : List ℕ) (places : List SectionPlace) (m : Module) → IsSectionList bytes places → Spells bytes m → length bytes < 2 ^ 30
    → map (λ p. p.id) places ≡ map section_id m
lists_all bytes places m are s short = ids_are m places 8 0 8 s.body s.are_sections (are.sections s.body s.parts short)
