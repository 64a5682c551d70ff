-- The entry of a section that a broken rule has is there.
use Rattle.std.proofs.Common.{◌≡◌, ℕ, zero, suc, ◌+◌, ◌<◌, ◌≤◌, List, [], ◌∷◌, length, map, Option, Some, None, Result, Ok, Err, All, refl, sym, ap, subst, arith, inl, inr}
use Rattle.std.specs.Prelude.{◌≢◌, ◌⊎◌, ◌^◌, IfOk, slice_get}
use Rattle.std.specs.List.{flat_map}
use Rattle.std.proofs.lemmas.List.{length-append, length-map, take_all}
use Rattle.std.proofs.lemmas.List.Elements.{All-head, All-tail}
use Rattle.wasm_spec.specs.declared.entities.TypeRef.{TypeRef}
use Rattle.wasm_spec.specs.declared.types.UnpackedIndex.{UnpackedIndex}
use Rattle.wasm_spec.specs.TypeData.{Group, SubType}
use Rattle.wasm_spec.specs.Module as plain
use Rattle.wasm_spec.specs.Module.{Payload, Module, Start, DataCount, imported_of}
use Rattle.wasm_spec.specs.Grammar.{section_id, Spells}
use Rattle.wasm_spec.specs.Interfaces.{HasNoInterfaceTypes}
use Rattle.rule_spec.specs.declared.rules.Rule.{Rule}
use Rattle.rule_spec.specs.declared.rules.Rule.TheVariants.{L1, L2, L3, L4, L5, L6, L7, L8, L9, L10}
use Rattle.rule_spec.specs.Lists.{declared_from, declared_groups, lists_of_module}
use Rattle.rule_spec.specs.Rules.{KeepsBefore}
use Rattle.refusal_place.specs.declared.kind.SectionKind.{SectionKind}
use Rattle.refusal_place.specs.declared.kind.SectionKind.TheVariants as kind
use Rattle.refusal_place.specs.Kinds.{id_of}
use Rattle.refusal_place.specs.Listed.{listed_count, ListsAtMost, HasNoSection}
use Rattle.rule_breaks.specs.declared.lists.ModuleList.{ModuleList}
use Rattle.rule_breaks.specs.declared.lists.ModuleList.TheVariants as list
use Rattle.rule_breaks.specs.declared.lists.Break.{Break}
use Rattle.rule_breaks.specs.declared.list_places.EntryPlace.{EntryPlace}
use Rattle.rule_breaks.specs.declared.refused.BrokenRule.{BrokenRule}
use Rattle.rule_breaks.specs.Breaks.{IsFirstBreak}
use Rattle.rule_breaks.specs.BrokenAt.{HasSectionEntry, IsBrokenAt, HasEntryInSection}
use Rattle.rule_breaks.specs.Faults.{IsFaultOf}
use Rattle.rule_breaks.specs.Refused.{BreaksFirst}
use Rattle.rule_breaks.specs.ListPlaces.{LacksIfRead}
use Rattle.rule_breaks.specs.Listed.{IsListed}
use Rattle.rule_breaks.specs.SectionEntries.{IsGroupOf, IsEntryOf, IsInIndexSpace}

-- ---- the first break of a rule is listed

pub first_listed : (r : Rule) (m : Module) (ls : ModuleList) (n : ℕ) → IsFirstBreak r (lists_of_module m) ls n → IsListed m ls n
first_listed L1 m list.Types n first = first.listed
first_listed L2 m list.Functions n first = first.listed
first_listed L2 m list.Tags n first = first.1.listed
first_listed L3 m list.Functions n first = first.listed
first_listed L3 m list.DataCounts n first = first.1.listed
first_listed L3 m list.Bodies n (inl unmatched) = unmatched.listed
first_listed L3 m list.Bodies n (inr many) = many.2.listed
first_listed L4 m list.TableTypes n first = first.listed
first_listed L4 m list.Memories n first = first.1.listed
first_listed L5 m list.Tables n first = first.listed
first_listed L6 m list.Tables n first = first.listed
first_listed L6 m list.Globals n first = first.1.listed
first_listed L6 m list.Elements n first = first.2.listed
first_listed L6 m list.Segments n first = first.3.listed
first_listed L7 m list.Exports n (inl outside) = outside.listed
first_listed L7 m list.Exports n (inr repeated) = repeated.1.listed
first_listed L8 m list.Starts n first = first.listed
first_listed L9 m list.Elements n first = first.listed
first_listed L9 m list.Segments n first = first.1.listed
first_listed L10 m list.Imports n first = first.listed
first_listed L10 m list.Tables n first = first.1.listed
first_listed L10 m list.Globals n first = first.2.listed
first_listed L10 m list.Elements n first = first.3.listed
first_listed L10 m list.Bodies n first = first.4.listed
first_listed L10 m list.Segments n first = first.5.listed
first_listed r m ls n first = absurd first

-- ---- the types that are declared are the members of the groups

declared_long : (end index : ℕ) (g : List (SubType UnpackedIndex UnpackedIndex)) → length (declared_from end index g) ≡ length g
declared_long end index [] = refl
declared_long end index (t ∷ ts) = ap suc (declared_long end (index + 1) ts)

pub types_long : (index : ℕ) (gs : List (Group UnpackedIndex UnpackedIndex)) → length (declared_groups index gs) ≡ length (flat_map (λ group. group) gs)
types_long index [] = refl
types_long index (g ∷ gs) = omega (
  arith,
  length-append (declared_from (index + length g) index g) (declared_groups (index + length g) gs),
  declared_long (index + length g) index g,
  types_long (index + length g) gs,
  length-append g (flat_map (λ group. group) gs),
)

-- ---- the entry of the section is there

below_length : {X : Type 0} (xs : List X) (k : ℕ) (x : X) → slice_get xs k ≡ Some x → k < length xs
below_length [] k x is = absurd cc
below_length (y ∷ xs) zero x is = omega arith
below_length (y ∷ xs) (suc k) x is = omega (arith, below_length xs k x is)

group_there : (gs : List (Group UnpackedIndex UnpackedIndex)) (n e : ℕ) → IsGroupOf gs n e → length gs ≤ e → ⊥
group_there gs n e g l =
    let one = ap (λ (l : List (Group UnpackedIndex UnpackedIndex)). length (flat_map (λ group. group) l)) (take_all e gs l) in
    let two = ap (λ (l : List (Group UnpackedIndex UnpackedIndex)). length (flat_map (λ group. group) l)) (take_all (e + 1) gs (omega (arith, l))) in
    omega (arith, one, two, g.begins, g.ends)

imported_there : (m : Module) (s : SectionKind) (e : ℕ) → s ≡ kind.Import → e < length (plain.imports m) → HasSectionEntry m s e
imported_there m s e is l = rw is l

-- the entry of an index space is imported, or below the number of those that the section defines
module _ {A : Type 0} (of : TypeRef → Option A) (defining : SectionKind) (m : Module) (n : ℕ) (s : SectionKind) (e : ℕ) (defined : ℕ)
    (long : n < length (imported_of of m) + defined) (there : e < defined → HasSectionEntry m defining e) where
  space_there : IsInIndexSpace of defining m n s e → HasSectionEntry m s e
  space_there (inl (below, is, u)) = imported_there m s e is (below_length (plain.imports m) e u.import u.stands)
  space_there (inr (is, counted)) =
      let P : SectionKind → Type 0 = λ k. HasSectionEntry m k e in subst P (sym is) (there (omega (arith, counted, long)))

pub entry_there : (m : Module) (ls : ModuleList) (n : ℕ) (s : SectionKind) (e : ℕ) → IsListed m ls n → IsEntryOf m ls n s e → HasSectionEntry m s e
entry_there m list.Types n s e l (is, g) =
    rw is (omega (arith, λ (far : length (plain.groups m) ≤ e). group_there (plain.groups m) n e g far))
entry_there m list.Functions n s e l is = space_there plain.function_import kind.Function m n s e (length (flat_map plain.function_types_of_section m))
    (omega (arith, l, length-append (imported_of plain.function_import m) (flat_map plain.function_types_of_section m))) (λ below. below) is
entry_there m list.TableTypes n s e l is = space_there plain.table_import kind.Table m n s e (length (flat_map plain.tables_of_section m))
    (omega (
      arith,
      l,
      length-append (imported_of plain.table_import m) (map (λ t. t.type) (flat_map plain.tables_of_section m)),
      length-map (flat_map plain.tables_of_section m) (λ t. t.type),
    )) (λ below. below) is
entry_there m list.Memories n s e l is = space_there plain.memory_import kind.Memory m n s e (length (flat_map plain.memories_of_section m))
    (omega (arith, l, length-append (imported_of plain.memory_import m) (flat_map plain.memories_of_section m))) (λ below. below) is
entry_there m list.Tags n s e l is = space_there plain.tag_import kind.Tag m n s e (length (flat_map plain.tags_of_section m))
    (omega (arith, l, length-append (imported_of plain.tag_import m) (flat_map plain.tags_of_section m))) (λ below. below) is
entry_there m list.Imports n s e l (is, same) = rw (is, same) l
entry_there m list.Tables n s e l (is, same) = rw (is, same) l
entry_there m list.Globals n s e l (is, same) = rw (is, same) l
entry_there m list.Exports n s e l (is, same) = rw (is, same) l
entry_there m list.Starts n s e l (is, same) = rw is (omega (arith, l))
entry_there m list.Elements n s e l (is, same) = rw (is, same) l
entry_there m list.DataCounts n s e l (is, same) = rw is (omega (arith, l))
entry_there m list.Bodies n s e l (is, same) = rw (is, same) l
entry_there m list.Segments n s e l (is, same) = rw (is, same) l

-- ---- so it is found

no_starts : (m : Module) → All (λ p. section_id p ≢ 8) m → flat_map plain.starts_of_section m ≡ []
no_starts [] all = refl
no_starts (Start function ∷ ps) all = absurd (All-head (λ p. section_id p ≢ 8) (Start function) ps all refl)
no_starts (p ∷ ps) all = no_starts ps (All-tail (λ p. section_id p ≢ 8) p ps all)

no_data_counts : (m : Module) → All (λ p. section_id p ≢ 12) m → flat_map plain.data_counts_of_section m ≡ []
no_data_counts [] all = refl
no_data_counts (DataCount count ∷ ps) all = absurd (All-head (λ p. section_id p ≢ 12) (DataCount count) ps all refl)
no_data_counts (p ∷ ps) all = no_data_counts ps (All-tail (λ p. section_id p ≢ 12) p ps all)

start_there : (m : Module) (e : ℕ) → HasSectionEntry m kind.Start e → All (λ p. section_id p ≢ 8) m → ⊥
start_there m e has none = omega (arith, ap length (no_starts m none), has)

data_count_there : (m : Module) (e : ℕ) → HasSectionEntry m kind.DataCount e → All (λ p. section_id p ≢ 12) m → ⊥
data_count_there m e has none = omega (arith, ap length (no_data_counts m none), has)

pub listed_there : (m : Module) (s : SectionKind) (e : ℕ) → s ≢ kind.Start → s ≢ kind.DataCount → HasSectionEntry m s e → listed_count s m ≤ e → ⊥
listed_there m kind.Start e start count has few = start refl
listed_there m kind.DataCount e start count has few = count refl
listed_there m s e start count has few = omega (arith, has, few)

-- start and data count sections
pub number_there : (m : Module) (s : SectionKind) (e : ℕ) → (s ≡ kind.Start) ⊎ (s ≡ kind.DataCount) → HasSectionEntry m s e
    → All (λ p. section_id p ≢ id_of s) m → ⊥
number_there m s e (inl is) has none = start_there m e (rw is at has) (rw is at none)
number_there m s e (inr is) has none = data_count_there m e (rw is at has) (rw is at none)

-- ---- so it is found where there is one

pub none_number : {E : Type 0} (bytes : List ℕ) (s : SectionKind) (e : ℕ) → (s ≡ kind.Start) ⊎ (s ≡ kind.DataCount) → (r : Result (Option ℕ) E)
    → IfOk r (λ place. place ≡ None → HasNoSection bytes s) → IfOk r (λ place. place ≡ None → HasEntryInSection bytes s e → ⊥)
none_number bytes s e is (Ok place) none = λ at r. number_there r.of s e is r.has (none at r.few r.of r.spelled r.no_interface_types)
none_number bytes s e is (Err x) none = tt

pub none_listed : {E : Type 0} (bytes : List ℕ) (s : SectionKind) (e : ℕ) → s ≢ kind.Start → s ≢ kind.DataCount → (r : Result (Option ℕ) E)
    → IfOk r (λ place. place ≡ None → ListsAtMost bytes s e) → IfOk r (λ place. place ≡ None → HasEntryInSection bytes s e → ⊥)
none_listed bytes s e start count (Ok place) none = λ at r. listed_there r.of s e start count r.has (none at r.few r.of r.spelled r.no_interface_types)
none_listed bytes s e start count (Err x) none = tt

-- the module that was read is the one that is spelled
pub lacks_read : {E : Type 0} (bytes : List ℕ) (m : Module) (b : Break)
    → (length bytes < 2 ^ 30 → (n : Module) → Spells bytes n → HasNoInterfaceTypes n → m ≡ n) → (r : Result (Option EntryPlace) E)
    → IfOk r (λ place. place ≡ None → ¬ IsListed m b.list b.entry) → IfOk r (λ place. place ≡ None → LacksIfRead bytes b)
lacks_read bytes m b same (Ok place) none = λ at short n spelled plain listed.
    none at (subst (λ (k : Module). IsListed k b.list b.entry) (sym (same short n spelled plain)) listed)
lacks_read bytes m b same (Err x) none = tt

-- ---- the broken rule, with where the entry begins

pub breaks_first : (bytes : List ℕ) (m : Module) (r : Rule) (place : Break) (b : BrokenRule) → Spells bytes m → HasNoInterfaceTypes m → KeepsBefore r m
    → IsFirstBreak r (lists_of_module m) place.list place.entry → IsBrokenAt bytes m r place b → BreaksFirst bytes b
breaks_first bytes m r place b spelled none before first is = record {
  of = m;
  spelled = spelled;
  no_interface_types = none;
  before = subst (λ (r : Rule). KeepsBefore r m) (sym is.rule_is) before;
  first =
      let P : Rule → Break → Type 0 = λ r p. IsFirstBreak r (lists_of_module m) p.list p.entry in
      let Q : Rule → Type 0 = λ r. P r place in
      subst (P b.rule) (sym is.place_is) (subst Q (sym is.rule_is) first);
  section_entry = let P : Break → Type 0 = λ p. IsEntryOf m p.list p.entry b.section b.section_entry in subst P (sym is.place_is) is.section_entry;
  byte = is.byte;
  fault =
      let P : Rule → Break → Type 0 = λ r p. IsFaultOf r (lists_of_module m) p.list p.entry b.fault in
      let Q : Rule → Type 0 = λ r. P r place in
      subst (P b.rule) (sym is.place_is) (subst Q (sym is.rule_is) is.fault);
}
