-- What a builder shows after a growing call, and what it holds under ids: after one more index, one
-- more group, and calls in turn.
use Rattle.std.proofs.Common.{◌≡◌, ◌<◌, ℕ, true, false, List, length, Option, Some, None, refl, sym, ap, ◌∙◌, inl, inr, arith, zero, suc, [], ◌∷◌, ◌++◌, take, drop, get_or}
use Rattle.std.specs.Prelude.{if◌then◌else◌, slice_get, is_some}
use Rattle.std.proofs.lemmas.Bool.{eqb-true, eq-eqb, cases_eq, eqb-false}
use Rattle.std.proofs.lemmas.Option.{same_Some}
use Rattle.type_spec.specs.Interned.{Interned, GroupSpan, with_group, opened, empty, with_exception, with_startup}
use Rattle.form_types.specs.Types.{TypesData, types_by_id}
use Rattle.module_types.specs.Builder.{Builder, noted, interns_by, interns, new_builder, BuilderState, builder_view, excepts, starts}
use Rattle.module_types.specs.Conversion.{group_of_id, members_of, no_span, kinds_of, HasIndex, HoldsGroup, HoldsGroups}
use Rattle.module_types.proofs.GroupMembers.{Extends, extends-group, group-within, span-new, span-old, types-apart}
use Rattle.module_types.proofs.GroupKinds.{same-long, taken-on, taken-behind}
use Rattle.std.specs.Option.{unwrap_or, option_map}
use Rattle.entity_map.specs.Secondary.{written}
use Rattle.entity_map.proofs.SecondaryLemmas.{slice_get-written, slice_get-written_elsewhere}
use Rattle.module_types.specs.IndicesByKey.{noted_at, note_of, notes_of}
use Rattle.module_types.specs.Runs.{with_groups, runs, seen_in, firsts}
use Rattle.std.proofs.lemmas.List.{length-map}
use Rattle.wasm_index.specs.declared.index.Index.{Index}
use Rattle.wasm_index.specs.declared.spaces.ModuleInternedRecGroupSpace.{ModuleInternedRecGroupSpace}
use Rattle.wasm_index.specs.Index.{number_of, index_of}
use Rattle.module_types.specs.Views.{TypeIndex, interned_of}

-- one more index is recorded
abbrev Notes : List (Option ℕ) → List (Option ℕ) → ℕ → ℕ → Type 0
Notes before after id n = noted_at after ≡ noted (noted_at before) id n

-- a state represents a builder that has its parts
shows : (s : BuilderState) (b : Builder) → s.validator ≡ b.validator → (builder_view s).built ≡ b.built → noted_at s.ids ≡ b.ids
    → noted_at s.exceptions ≡ b.exceptions → option_map number_of s.startup ≡ b.startup → s.is_poisoned ≡ b.is_poisoned → builder_view s ≡ b
shows s b validator built ids exceptions startup poisoned = grind arith

module _ (old new : BuilderState) where
  abbrev before : Builder
  before = builder_view old

  types-count : (k : TypeIndex) → k ≡ index_of (length old.list.types) → number_of k ≡ length before.built.types
  types-count k next = ap number_of next ∙ sym (length-map old.list.types interned_of)

  pub shows-interned : (ts : List Interned) (id : ℕ) (k : Index ModuleInternedRecGroupSpace) → None ≡ noted_at old.ids id
      → (builder_view new).built ≡ with_group before.built ts → k ≡ index_of (length old.list.groups) → Notes old.ids new.ids id (number_of k)
      → new.validator ≡ old.validator → new.exceptions ≡ old.exceptions → new.startup ≡ old.startup → new.is_poisoned ≡ old.is_poisoned
      → builder_view new ≡ interns before id ts
  shows-interned ts id k none built next puts validator exceptions startup poisoned = grind (arith, shows, length-map)

  pub shows-excepted : (i : ℕ) (k : TypeIndex) → None ≡ noted_at old.exceptions i
      → (builder_view new).built ≡ with_exception before.built i → k ≡ index_of (length old.list.types) → Notes old.exceptions new.exceptions i (number_of k)
      → new.validator ≡ old.validator → new.ids ≡ old.ids → new.startup ≡ old.startup → new.is_poisoned ≡ old.is_poisoned
      → builder_view new ≡ excepts before i
  shows-excepted i k none built next puts validator ids startup poisoned = grind (arith, shows, types-count)

  pub shows-started : (k : TypeIndex) → old.startup ≡ None → (builder_view new).built ≡ with_startup before.built true
      → k ≡ index_of (length old.list.types) → new.startup ≡ Some k
      → new.validator ≡ old.validator → new.ids ≡ old.ids → new.exceptions ≡ old.exceptions → new.is_poisoned ≡ old.is_poisoned
      → builder_view new ≡ starts before
  shows-started k none built next startup validator ids exceptions poisoned = grind (arith, shows, types-count)

pub shows-new : (new : BuilderState) → (builder_view new).built ≡ empty → new.ids ≡ [] → new.exceptions ≡ [] → new.startup ≡ None
    → new.is_poisoned ≡ false → builder_view new ≡ new_builder new.validator
shows-new new built ids exceptions startup poisoned = grind arith

module _ (none v k : ℕ) (is_none : note_of none ≡ None) (is : note_of v ≡ Some k) where
  note-read : (xs : List ℕ) (m : ℕ) → noted_at (notes_of xs) m ≡ note_of (unwrap_or (slice_get xs m) none)
  note-read [] m = sym is_none
  note-read (x ∷ xs) zero = refl
  note-read (x ∷ xs) (suc m) = note-read xs m

  pub noted-written : (xs : List ℕ) (n m : ℕ)
      → noted_at (notes_of (written none xs n v)) m ≡ noted (noted_at (notes_of xs)) n k m
  noted-written xs n m = grind (arith, note-read, eqb-true, slice_get-written, slice_get-written_elsewhere, eqb-false)

pub noted-here : (at : ℕ → Option ℕ) (n k : ℕ) → noted at n k n ≡ Some k
noted-here at n k = ap (λ c. if c then Some k else at n) (eq-eqb n n refl)

pub noted-elsewhere : (at : ℕ → Option ℕ) (n k m : ℕ) → (n ≡ m → ⊥) → noted at n k m ≡ at m
noted-elsewhere at n k m other = grind arith

module _ (t : TypesData) (b : Builder) (k : ℕ) (ts : List Interned) (holds : HoldsGroups t b) (kinds : kinds_of ts ≡ kinds_of (members_of t k)) where
  abbrev later : Builder
  later = interns_by b k ts None

  abbrev HoldsLater : ℕ → ℕ → Type 0
  HoldsLater m j = HoldsGroup t later.built.types later.built.groups m j

  long : length ts ≡ length (members_of t k)
  long = same-long ts (members_of t k) kinds

  x : Extends (opened b.built ts) (with_group b.built ts)
  x = extends-group b.built ts

  longer : length b.built.groups < length later.built.groups
  longer = group-within b.built ts (with_group b.built ts) x

  held-before : (m j : ℕ) → b.ids m ≡ Some j → HoldsLater m j
  held-before m j e =
      let h = holds m j e in
      let s = h.stands in
      let at = span-old b.built ts (with_group b.built ts) x j s.within in
      let n = length (members_of t m) in
      let start = (get_or b.built.groups j no_span).start in
      let there : length (take n (drop start b.built.types)) ≡ n = same-long (take n (drop start b.built.types)) (members_of t m) h.kinds in
      record {
        stands = record {
          within = omega (arith, s.within, longer);
          whole = omega (arith, s.whole, ap (λ (r : GroupSpan). r.start) at, ap (λ (r : GroupSpan). r.end) at);
        };
        kinds = ap kinds_of ((λ i. take n (drop (at i).start (types-apart b.built ts (with_group b.built ts) x i)))
            ∙ taken-on n start b.built.types (ts ++ x.types_more) there) ∙ h.kinds;
      }

  held-new : HoldsLater k (length b.built.groups)
  held-new =
      let at = span-new b.built ts (with_group b.built ts) x in
      let n = length (members_of t k) in
      record {
        stands = record {
          within = longer;
          whole = omega (arith, long, ap (λ (r : GroupSpan). r.start) at, ap (λ (r : GroupSpan). r.end) at);
        };
        kinds = ap kinds_of ((λ i. take n (drop (at i).start (types-apart b.built ts (with_group b.built ts) x i)))
            ∙ taken-behind n b.built.types ts x.types_more long) ∙ kinds;
      }

  holds-later : (m j : ℕ) → later.ids m ≡ Some j → HoldsLater m j
  holds-later m j e =
      elim (cases_eq k m) [
        | inl name ↦
            let place : Some (length b.built.groups) ≡ Some j = sym (noted-here b.ids k (length b.built.groups)) ∙ ap later.ids name ∙ e in
            coe 0 1 (i. HoldsLater (name i) (same_Some (length b.built.groups) j place i)) held-new
        | inr other ↦ held-before m j (sym (noted-elsewhere b.ids k (length b.built.groups) m other) ∙ e)
      ]

  pub holds-kept : HoldsGroups t (interns b k ts)
  holds-kept = elim (b.ids k) as (λ o. HoldsGroups t (interns_by b k ts o)) [ Some j ↦ holds | None ↦ holds-later ]

  pub has-index : (n : ℕ) → n < length (types_by_id t.groups) → group_of_id t n ≡ k
      → HasIndex t (length (interns b k ts).built.types) (interns b k ts).built.groups (interns b k ts).ids n
  has-index n within same = record {
    within = within;
    stands = λ j e. (holds-kept (group_of_id t n) j e).stands;
    room = λ none. let no : (interns b k ts).ids k ≡ None = ap (λ m. (interns b k ts).ids m) (sym same) ∙ none in absurd (grind arith);
  }

-- ---- calls in turn

-- the ids that a builder holds
abbrev Seen : Builder → List ℕ → Type 0
Seen b seen = (n : ℕ) → is_some (b.ids n) ≡ seen_in n seen

module _ (cs : List (ℕ × List Interned)) (id : ℕ) (ts : List Interned) where
  one-more : ((b : Builder) (seen : List ℕ) → Seen b seen → (runs b cs).built ≡ with_groups b.built (firsts seen cs))
      → (b : Builder) (seen : List ℕ) → Seen b seen → (o : Option ℕ) → b.ids id ≡ o
      → (runs (interns_by b id ts (b.ids id)) cs).built ≡ with_groups b.built (if seen_in id seen then firsts seen cs else ts ∷ firsts (id ∷ seen) cs)
  one-more rest b seen tied (Some k) e = grind arith
  one-more rest b seen tied None e =
      ap (λ o. (runs (interns_by b id ts o) cs).built) e
      ∙ rest (interns_by b id ts None) (id ∷ seen) (λ n. grind (arith, tied n))
      ∙ ap (λ s. with_groups b.built (if s then firsts seen cs else ts ∷ firsts (id ∷ seen) cs)) (sym (ap is_some e) ∙ tied id)

run-from : (cs : List (ℕ × List Interned)) (b : Builder) (seen : List ℕ) → Seen b seen → (runs b cs).built ≡ with_groups b.built (firsts seen cs)
run-from [] b seen tied = refl
run-from (c ∷ cs) b seen tied = one-more cs c.0 c.1 (run-from cs) b seen tied (b.ids c.0) refl

pub run-new : (validator : ℕ) (cs : List (ℕ × List Interned)) → (runs (new_builder validator) cs).built ≡ with_groups empty (firsts [] cs)
run-new validator cs = run-from cs (new_builder validator) [] (λ n. refl)
