-- Element segments, held one after another.
use Rattle.std.proofs.Common.{◌≡◌, ◌≢◌, ◌∙◌, ℕ, ◌+◌, ◌<◌, ◌≤◌, zero, suc, false, List, [], ◌∷◌, ◌++◌, length, map, Option, None, Some, refl, sym, ap, subst, arith, inl, inr}
use Rattle.std.specs.Prelude.{slice_get, unwrap_or}
use Rattle.std.specs.Option.{option_map}
use Rattle.std.proofs.lemmas.Bool.Decides.{eqb_tells}
use Rattle.std.proofs.lemmas.List.{append-nil, length_push, length-map, map-append, map_push}
use Rattle.std.proofs.lemmas.List.Elements.{filter-append, filter_map-append}
use Rattle.entity_map.specs.Secondary.{value_at, with_value}
use Rattle.entity_map.proofs.SecondaryLemmas.{value_at-with_value, value_at-with_value_elsewhere}
use Rattle.wasm_spec.specs.Module.{Expression, PassiveElement, DeclaredElement, ActiveElement, Element}
use Rattle.wasm_index.specs.declared.index.Index.{Index}
use Rattle.wasm_index.specs.declared.spaces.PassiveElemSpace.{PassiveElemSpace}
use Rattle.wasm_index.specs.Index.{index_of, number_of}
use Rattle.wasm_convert.specs.Conversion.{LookUp}
use Rattle.wasm_convert.specs.Constants.{const_ops_of}
use Rattle.wasm_types.specs.declared.value.WasmRefType.{WasmRefType}
use Rattle.wasm_module.specs.declared.table_initialization.TableSegment.{TableSegment}
use Rattle.wasm_module.specs.declared.table_initialization.TableSegmentElements.{TableSegmentElements}
use Rattle.wasm_module.specs.Elements.{element_type, element_count}
use Rattle.replay_spec.specs.Elements.{items_by, active_by}
use Rattle.replay_spec.specs.Startup.{is_passive, passive_elements}
use Rattle.module_sections.specs.declared.elements.ElementSegments.{ElementSegments}
use Rattle.module_sections.specs.Initialisers.{type_in, active_items, passive_items, view_items, view_segment, passive_numbers}
use Rattle.module_sections.specs.Segments.{HoldsElements, HasRoomForSegments}

-- ---- numbers among the passive ones

passive_numbers-append : (n m : ℕ) (xs ys : List Element) → m ≡ n + length (passive_elements xs)
    → passive_numbers n (xs ++ ys) ≡ passive_numbers n xs ++ passive_numbers m ys
passive_numbers-append n m [] ys is = grind arith
passive_numbers-append n m (x ∷ xs) ys is = grind (arith, passive_numbers-append (n + 1) m xs ys, passive_numbers-append n m xs ys)

length-passive_numbers : (n : ℕ) (xs : List Element) → length (passive_numbers n xs) ≡ length xs
length-passive_numbers n [] = refl
length-passive_numbers n (x ∷ xs) = grind (arith, length-passive_numbers (n + 1) xs, length-passive_numbers n xs)

few_passive : (xs : List Element) → length (passive_elements xs) ≤ length xs
few_passive [] = omega arith
few_passive (x ∷ xs) = grind (arith, few_passive xs)

-- the number at a position of a longer list
abbrev number_in : List (Option ℕ) → ℕ → Option ℕ
number_in ns i = unwrap_or (slice_get ns i) None

number_in-none : (ns : List (Option ℕ)) (i : ℕ) → number_in (ns ++ None ∷ []) i ≡ number_in ns i
number_in-none [] zero = refl
number_in-none [] (suc i) = refl
number_in-none (n ∷ ns) zero = refl
number_in-none (n ∷ ns) (suc i) = number_in-none ns i

number_in-last : (ns : List (Option ℕ)) (o : Option ℕ) → number_in (ns ++ o ∷ []) (length ns) ≡ o
number_in-last [] o = refl
number_in-last (n ∷ ns) o = number_in-last ns o

number_in-other : (ns : List (Option ℕ)) (o : Option ℕ) (i : ℕ) → i ≢ length ns → number_in (ns ++ o ∷ []) i ≡ number_in ns i
number_in-other [] o zero ne = absurd (ne refl)
number_in-other [] o (suc i) ne = refl
number_in-other (n ∷ ns) o zero ne = refl
number_in-other (n ∷ ns) o (suc i) ne = number_in-other ns o i (λ e. ne (ap suc e))

-- ---- one segment more

abbrev view_kind : TableSegmentElements → WasmRefType × ℕ
view_kind items = (element_type items, element_count items)

counted : (look : LookUp) (before : List Element) (s : ElementSegments) → HoldsElements look before s → length s.passive
    ≡ length (passive_elements before)
counted look before s holds =
    sym (length-map s.passive view_items) ∙ ap length holds.passive ∙ length-map (passive_elements before) (λ (x : Element). items_by (type_in look) (const_ops_of look) x.items)

module _ (look : LookUp) (before : List Element) (e : Element) (old : ElementSegments) (holds : HoldsElements look before old) where
  abbrev next : ℕ
  next = length (passive_elements before)

  abbrev earlier : List (Option ℕ)
  earlier = passive_numbers 0 before

  holds-more : (new : ElementSegments)
      → map view_segment new.active.items ≡ map view_segment old.active.items ++ active_items look (e ∷ [])
      → map view_items new.passive ≡ map view_items old.passive ++ passive_items look (e ∷ [])
      → new.kinds ≡ map view_kind new.passive
      → ((i : ℕ) → option_map number_of (value_at new.numbers i) ≡ number_in (earlier ++ passive_numbers next (e ∷ [])) i)
      → new.count ≡ old.count + 1 → HoldsElements look (before ++ e ∷ []) new
  holds-more new active passive kinds numbers count = record {
    active = cc (filter_map-append (λ (x : Element). active_by (type_in look) (const_ops_of look) x.kind x.items) before (e ∷ []));
    passive = cc (
      map-append (λ (x : Element). items_by (type_in look) (const_ops_of look) x.items) (passive_elements before) (passive_elements (e ∷ [])),
      filter-append (λ (x : Element). is_passive x.kind) before (e ∷ []),
    );
    kinds = kinds;
    numbers = λ i. numbers i ∙ ap (λ (ns : List (Option ℕ)). number_in ns i) (sym (passive_numbers-append 0 next before (e ∷ []) (omega arith)));
    count = omega (arith, count, holds.count, length_push before e);
  }

  -- one that is not passive keeps all but the active ones
  holds-other : (new : ElementSegments) → is_passive e.kind ≡ false
      → map view_segment new.active.items ≡ map view_segment old.active.items ++ active_items look (e ∷ [])
      → new.passive ≡ old.passive → new.kinds ≡ old.kinds → new.numbers ≡ old.numbers → new.count ≡ old.count + 1
      → HoldsElements look (before ++ e ∷ []) new
  holds-other new isnt active passive kinds numbers count =
      holds-more new active
      (rw (isnt, passive) (simp append-nil))
      (kinds ∙ holds.kinds ∙ ap (map view_kind) (sym passive))
      (λ i. rw (isnt, numbers, number_in-none earlier i) (holds.numbers i))
      count

  pub holds-active : (table : Option ℕ) (offset : Expression) (s : TableSegment) (new : ElementSegments) → e.kind ≡ ActiveElement table offset
      → number_of s.table_index ≡ unwrap_or table 0 → s.offset ≡ const_ops_of look offset → view_items s.elements ≡ items_by (type_in look) (const_ops_of look) e.items
      → new.active.items ≡ old.active.items ++ s ∷ []
      → new.passive ≡ old.passive → new.kinds ≡ old.kinds → new.numbers ≡ old.numbers → new.count ≡ old.count + 1
      → HoldsElements look (before ++ e ∷ []) new
  holds-active table offset s new is at place items active =
      let seen : view_segment s ≡ record { table = unwrap_or table 0; offset = const_ops_of look offset; items = items_by (type_in look) (const_ops_of look) e.items } =
      λ i. record { table = at i; offset = place i; items = items i } in
      holds-other new (ap is_passive is) (rw (active, is) (cc (map_push view_segment old.active.items s, seen)))

  pub holds-declared : (new : ElementSegments) → e.kind ≡ DeclaredElement → new.active.items ≡ old.active.items
      → new.passive ≡ old.passive → new.kinds ≡ old.kinds → new.numbers ≡ old.numbers → new.count ≡ old.count + 1
      → HoldsElements look (before ++ e ∷ []) new
  holds-declared new is active = holds-other new (ap is_passive is) (rw (active, is) (simp append-nil))

  numbers-passive : (n k i : ℕ) → n ≡ length before → k ≡ next
      → option_map number_of (value_at (with_value old.numbers n (Some (index_of {Space = PassiveElemSpace} k))) i)
      ≡ number_in (earlier ++ Some next ∷ []) i
  numbers-passive n k i at is =
      let long : n ≡ length earlier = at ∙ sym (length-passive_numbers 0 before) in
      let v : Option (Index PassiveElemSpace) = Some (index_of k) in
      elim (eqb_tells i n) [
        | inl same ↦ subst (λ j. option_map number_of (value_at (with_value old.numbers n v) j) ≡ number_in (earlier ++ Some next ∷ []) j)
            (sym same.1)
            (ap (option_map number_of) (value_at-with_value old.numbers n v) ∙ ap Some is
            ∙ sym (ap (number_in (earlier ++ Some next ∷ [])) long ∙ number_in-last earlier (Some next)))
        | inr other ↦ ap (option_map number_of) (value_at-with_value_elsewhere old.numbers n v i other.1) ∙ holds.numbers i
            ∙ sym (number_in-other earlier (Some next) i (λ e. other.1 (e ∙ sym long)))
      ]

  pub holds-passive : (x : TableSegmentElements) (n : ℕ) (new : ElementSegments) → e.kind ≡ PassiveElement
      → view_items x ≡ items_by (type_in look) (const_ops_of look) e.items → n ≡ old.count
      → new.active.items ≡ old.active.items → new.passive ≡ old.passive ++ x ∷ [] → new.kinds ≡ old.kinds ++ view_kind x ∷ []
      → new.numbers ≡ with_value old.numbers n (Some (index_of (length old.passive))) → new.count ≡ old.count + 1
      → HoldsElements look (before ++ e ∷ []) new
  holds-passive x n new is items at active passive kinds numbers count =
      holds-more new
      (rw (active, is) (simp append-nil))
      (rw (passive, is) (cc (map_push view_items old.passive x, items)))
      (cc (holds.kinds, map_push view_kind old.passive x))
      (λ i. rw (is, numbers) (numbers-passive n (length old.passive) i (at ∙ holds.count) (counted look before old holds)))
      count

-- ---- few

module _ (look : LookUp) where
  -- so lists are short
  pub room-counts : (a : ElementSegments) → HasRoomForSegments look a 1
      → (a.count < 4294967295) × (length a.kinds < 4294967294) × (length a.passive < 4294967294)
  room-counts a room =
      let passive = counted look room.0 a room.1 in
      let kinds = ap length room.1.kinds ∙ length-map a.passive view_kind in (
        omega (arith, room.2, room.1.count),
        omega (arith, room.2, few_passive room.0, passive, kinds),
        omega (arith, room.2, few_passive room.0, passive),
      )
