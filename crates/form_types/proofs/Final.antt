-- What is numbered at the end is what the module's types are.
use Rattle.std.proofs.Common.{true, false, ◌≡◌, ◌∙◌, ◌↔◌, ℕ, ◌+◌, ◌^◌, ◌<◌, ◌≤◌, List, [], ◌∷◌, length, get_or, map, Option, Some, None, refl, sym, ap, subst, arith, length-append}
use Rattle.std.specs.Prelude.{slice_index, slice_get}
use Rattle.std.specs.Option.{option_map}
use Rattle.std.specs.List.{All}
use Rattle.std.proofs.lemmas.List.{length-map, get_or-map}
use Rattle.std.proofs.lemmas.List.Elements.{All-nil, All-cons, All-head, All-tail, All-append, All-weaker, All-get_or, All-from_get_or}
use Rattle.std.proofs.lemmas.Option.{slice_get-get_or}
use Rattle.wasm_spec.specs.declared.types.UnpackedIndex.{UnpackedIndex}
use Rattle.wasm_spec.specs.declared.types.UnpackedIndex.TheVariants.{Module, RecGroup, Id}
use Rattle.wasm_spec.specs.TypeData.{SubType, Group, Composite, Func, Array, Struct, Cont, Exn, map_sub_type, map_composite}
use Rattle.wasm_spec.specs.Module as plain
use Rattle.wasm_spec.specs.Sizes.{HasShortLists}
use Rattle.type_spec.specs.Equality.{home}
use Rattle.type_spec.proofs.Homes.{size, home-within}
use Rattle.type_spec.proofs.Numbers.{exact}
use Rattle.rule_spec.specs.Lists.{Declared, Lists, declared_from, declared_groups, lists_of_module, kind_at}
use Rattle.rule_spec.specs.TypeRules.{IsFunction, KindIsBelow, NamesFunctionType, IsDeclaredWell}
use Rattle.rule_spec.specs.TypeRules as rule
use Rattle.form_reader.specs.Views.{group_of}
use Rattle.form_types.specs.declared.numbering.Numbering.{Numbering}
use Rattle.form_types.specs.Types.{NamedGroup, TypesData, types_by_id, NamesFunction, CompositeContinues, ContinuesFunction, TypesAreSound}
use Rattle.form_types.specs.EarlierTypes.{ids_of}
use Rattle.form_types.specs.Placed.{id_at, named_index}
use Rattle.form_types.specs.Numbered.{HasItsId, AreNumbered}
use Rattle.form_types.specs.Taken.{places, FirstAreNumbered}
use Rattle.form_types.specs.Below.{NamesBelow}
use Rattle.form_types.proofs.PartsBelow.{cont_below}
use Rattle.form_types.proofs.Steps.{below-all, in-row, told-apart, group-renamed}
use Rattle.form_types.proofs.AtIds.{type-at-id}
use Rattle.form_types.proofs.Ruled.{declared-types, size-places}

module _ (m : plain.Module) (n : Numbering) (b : FirstAreNumbered (plain.groups m) n) (validator : ℕ) where
  abbrev gs : List (Group ℕ ℕ)
  gs = places (plain.groups m)

  abbrev ids : List ℕ
  ids = ids_of n.declared.items

  abbrev number : ℕ → ℕ
  number = slice_index ids

  abbrev groups : List NamedGroup
  groups = map group_of n.distinct.groups.items

  abbrev t : TypesData
  t = record { validator = validator; groups = groups; declared = ids }

  abbrev known : List (SubType UnpackedIndex UnpackedIndex)
  known = types_by_id groups

  all : size gs ≡ length (plain.types m)
  all = size-places (plain.groups m)

  within : (i : ℕ) → i < length (plain.types m) → i < size gs
  within i h = omega (arith, h, all)

  stands : (i : ℕ) → i < size gs → HasItsId t (home gs i) i (slice_index ids i)
  stands i h =
      let s = b.numbered.stands i h in
      record { number = s.at; below = omega (arith, s.below, b.numbered.listed.long); group = group-renamed b.numbered i h; member = s.number_is }

  pub numbered : AreNumbered m t
  numbered = record {
    each = b.counted ∙ all;
    exact = λ i j h k. exact gs gs number number (size gs) (size gs) (told-apart b.numbered) i j (within i h) (within j k);
    row = λ i h.
        let w = home-within gs i (within i h) in
        let first = in-row b.numbered i (home gs i).start (within i h) (record { from = omega arith; to = omega (arith, w.from, w.to) }) in
        omega (arith, first, (b.numbered.stands i (within i h)).number_is);
    held = λ i h. stands i (within i h);
    in_order = λ i id h lt. b.numbered.given.in_order i id (within i h) lt;
    nothing_else = λ id lt. let f = b.numbered.given.nothing_else id lt in (f.0, omega (arith, f.1, all), f.2);
  }

  abbrev rename : UnpackedIndex → UnpackedIndex
  rename i = named_index ids i

  at-id : (j : ℕ) → j < length (plain.types m) → (d : SubType UnpackedIndex UnpackedIndex)
      → get_or known (number j) d ≡ map_sub_type rename rename (get_or (plain.types m) j d)
  at-id j lt d = type-at-id m t numbered j lt d

  -- what holds of each declared type, by ids, holds of each type
  each-type : (P : SubType UnpackedIndex UnpackedIndex → Type 0) (d : SubType UnpackedIndex UnpackedIndex)
      → ((j : ℕ) → j < length (plain.types m) → P (map_sub_type rename rename (get_or (plain.types m) j d))) → All P known
  each-type P d each = All-from_get_or P known d (λ id lt.
      let f = b.numbered.given.nothing_else id lt in
      subst P (sym (ap (λ k. get_or known k d) (sym f.2) ∙ at-id f.0 (omega (arith, f.1, all)) d)) (each f.0 (omega (arith, f.1, all))))

  short-mapped : (x : SubType UnpackedIndex UnpackedIndex) → HasShortLists x → HasShortLists (map_sub_type rename rename x)
  short-mapped x short = grind (arith, length-map)

  -- ---- continuations

  abbrev l : Lists
  l = lists_of_module m

  abbrev declared : List Declared
  declared = declared_groups 0 (plain.groups m)

  abbrev Continues : Declared → Type 0
  Continues d = rule.ContinuesFunction l d.type.composite.inner

  none : SubType UnpackedIndex UnpackedIndex
  none = record { is_final = true; supertype = None; composite = record { inner = Struct []; shared = false } }

  counted : length declared ≡ length (plain.types m)
  counted = sym (length-map declared (λ (d : Declared). d.type)) ∙ ap length (declared-types 0 (plain.groups m))

  function-mapped : (c : Composite UnpackedIndex UnpackedIndex) → IsFunction (map_composite rename rename c) ↔ IsFunction c
  function-mapped c = grind arith

  -- a declared type is a function type where the type at its id is one
  names-function : (r : ℕ) → r < length (plain.types m) → NamesFunction known (id_at ids r) ↔ NamesFunctionType l r
  names-function r lt =
      let inside : r < length declared = omega (arith, counted, lt) in
      let d : Declared = record { type = none; index = 0; group_end = 0 } in
      let x = get_or (plain.types m) r none in
      let found : slice_get known (number r) ≡ Some (map_sub_type rename rename x) =
      slice_get-get_or known (number r) none (below-all b.numbered r (within r lt)) ∙ ap (λ y. Some y) (at-id r lt none) in
      let type : (get_or declared r d).type ≡ x =
      sym (get_or-map (λ (x : Declared). x.type) declared r d none inside) ∙ ap (λ l. get_or l r none) (declared-types 0 (plain.groups m)) in
      let kind : kind_at l r ≡ Some x.composite.inner =
      ap (option_map (λ (d : Declared). d.type.composite.inner)) (slice_get-get_or declared r d inside) ∙ ap (λ (y : SubType UnpackedIndex UnpackedIndex). Some y.composite.inner) type in
      rw (found, kind) (function-mapped x.composite.inner)

  -- a type continues as the type at its id does
  continues : (d : Declared) → NamesBelow d → d.group_end ≤ length (plain.types m)
      → ContinuesFunction known (map_sub_type rename rename d.type) ↔ Continues d
  continues d below ends = by d.type.composite.inner below.indices where
    by : (c : Composite UnpackedIndex UnpackedIndex) → KindIsBelow d.group_end c
        → CompositeContinues known (map_composite rename rename c) ↔ rule.ContinuesFunction l c
    by (Cont (Module r)) near = let lt = (cont_below d.group_end (Module r)).0 near in names-function r (omega (arith, lt, ends))
    by (Cont (RecGroup r)) near = absurd ((cont_below d.group_end (RecGroup r)).0 near)
    by (Cont (Id r)) near = absurd ((cont_below d.group_end (Id r)).0 near)
    by (Func f) near = (λ yes. yes, λ yes. yes)
    by (Array f) near = (λ yes. yes, λ yes. yes)
    by (Struct f) near = (λ yes. yes, λ yes. yes)
    by (Exn e) near = (λ yes. yes, λ yes. yes)

  ends-within : (index total : ℕ) (gs : List NamedGroup) → index + length (types_by_id gs) ≤ total → All (λ d. d.group_end ≤ total) (declared_groups index gs)
  ends-within index total [] le = All-nil (λ d. d.group_end ≤ total)
  ends-within index total (g ∷ gs) le =
      let long = length-append g (types_by_id gs) in
      All-append (λ d. d.group_end ≤ total) (declared_from (index + length g) index g) (declared_groups (index + length g) gs)
      (members index g) (ends-within (index + length g) total gs (omega (arith, le, long))) where
        members : (at : ℕ) (ts : NamedGroup) → All (λ d. d.group_end ≤ total) (declared_from (index + length g) at ts)
        members at [] = All-nil (λ d. d.group_end ≤ total)
        members at (t ∷ ts) = All-cons (λ d. d.group_end ≤ total) _ _ (omega (arith, le, length-append g (types_by_id gs))) (members (at + 1) ts)

  module _ (below : All NamesBelow declared) where
    at : (j : ℕ) → j < length (plain.types m) → ContinuesFunction known (map_sub_type rename rename (get_or (plain.types m) j none)) ↔ Continues (get_or declared j (record { type = none; index = 0; group_end = 0 }))
    at j lt =
        let d : Declared = record { type = none; index = 0; group_end = 0 } in
        let inside : j < length declared = omega (arith, counted, lt) in
        let type : (get_or declared j d).type ≡ get_or (plain.types m) j none =
        sym (get_or-map (λ (x : Declared). x.type) declared j d none inside) ∙ ap (λ l. get_or l j none) (declared-types 0 (plain.groups m)) in
        let ends = All-get_or (λ d. d.group_end ≤ length (plain.types m)) declared j d inside (ends-within 0 (length (plain.types m)) (plain.groups m) (omega arith)) in
        subst (λ x. ContinuesFunction known (map_sub_type rename rename x) ↔ Continues (get_or declared j d)) type
        (continues (get_or declared j d) (All-get_or NamesBelow declared j d inside below) ends)

    continue-alike : All (ContinuesFunction known) known ↔ All Continues declared
    continue-alike = (
      λ all. All-from_get_or Continues declared (record { type = none; index = 0; group_end = 0 }) (λ j lt.
          let inside : j < length (plain.types m) = omega (arith, counted, lt) in
          (at j inside).0 (subst (ContinuesFunction known) (at-id j inside none)
          (All-get_or (ContinuesFunction known) known (number j) none (below-all b.numbered j (within j inside)) all))),
      λ all. each-type (ContinuesFunction known) none (λ j lt.
          (at j lt).1 (All-get_or Continues declared j (record { type = none; index = 0; group_end = 0 }) (omega (arith, counted, lt)) all)),
    )

    pub well : All (ContinuesFunction known) known ↔ All (IsDeclaredWell l) declared
    well = (
      λ all. both declared below (continue-alike.0 all),
      λ all. continue-alike.1 (All-weaker (IsDeclaredWell l) Continues (λ d is. is.continuation) declared all),
    ) where
      both : (ds : List Declared) → All NamesBelow ds → All Continues ds → All (IsDeclaredWell l) ds
      both [] p q = All-nil (IsDeclaredWell l)
      both (d ∷ ds) p q =
          let here = All-head NamesBelow d ds p in
          All-cons (IsDeclaredWell l) d ds
          (record { indices = here.indices; supertype = here.supertype; continuation = All-head Continues d ds q })
          (both ds (All-tail NamesBelow d ds p) (All-tail Continues d ds q))

  pub sound : All (ContinuesFunction known) known → All HasShortLists (plain.types m) → length (plain.types m) < 2 ^ 30 → TypesAreSound t
  sound continuing short few = record {
    references = b.numbered.listed.references;
    continuations = continuing;
    lists = each-type HasShortLists none (λ j lt.
        short-mapped (get_or (plain.types m) j none) (All-get_or HasShortLists (plain.types m) j none lt short));
    declared = All-from_get_or (λ id. id < length known) ids 0 (λ i lt. below-all b.numbered i (omega (arith, lt, b.counted)));
    few = omega (arith, b.numbered.few, all, few);
  }
