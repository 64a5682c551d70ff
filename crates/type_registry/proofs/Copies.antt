-- Parts of lists, an element at a time; and what references of a listed group become.
use Rattle.std.proofs.Common.{◌≡◌, ◌∙◌, ℕ, zero, suc, ◌+◌, ◌-◌, ◌<◌, ◌≤◌, List, [], ◌∷◌, ◌++◌, length, take, drop, map, get_or, slice_get, Some, refl, sym, ap, subst, arith}
use Rattle.std.specs.List.{All}
use Rattle.std.proofs.lemmas.List.{take-map, drop-map, take_more}
use Rattle.std.proofs.lemmas.List.Elements.{All-map}
use Rattle.std.proofs.lemmas.Option.{slice_get_within, get_or_from_slice_get}
use Rattle.form_types.proofs.AllOf.{All-from_map}
use Rattle.wasm_spec.specs.TypeData.{map_group, map_sub_type, group_edges}
use Rattle.type_spec.specs.Names.{named, by_name, index_of as index_in}
use Rattle.type_spec.specs.TypeShapes.{group_shape}
use Rattle.type_spec.specs.Interned.{GroupSpan}
use Rattle.wasm_types.specs.declared.index.EngineOrModuleTypeIndex.{EngineOrModuleTypeIndex}
use Rattle.wasm_types.specs.TypeViews.{sub_type_of, group_of}
use Rattle.wasm_trace.specs.Canonical.{CanBeConsedEdge, CanBeRuntimeEdge}
use Rattle.module_types.specs.Views.{index_at}
use Rattle.module_types.specs.TypeList.{TypeList}
use Rattle.module_types.specs.ListGroups.{unkinded, types_in, span_at}
use Rattle.module_types.proofs.Standing.{stands-at}
use Rattle.module_types.specs.Listed.{Listed, list_of}
use Rattle.type_registry.specs.Changes.{members_of, edges_of, IsGiven}

pub take-next : {A : Type 0} (xs : List A) (k : ℕ) (x : A) → slice_get xs k ≡ Some x → take (suc k) xs ≡ take k xs ++ x ∷ []
take-next xs k x at = grind (arith, slice_get_within xs k x at, take_more xs k x (slice_get_within xs k x at), get_or_from_slice_get xs k x x at)

pub get-dropped : {A : Type 0} (xs : List A) (s p : ℕ) → slice_get (drop s xs) p ≡ slice_get xs (s + p)
get-dropped xs zero p = let at : p ≡ 0 + p = omega arith in ap (slice_get xs) at
get-dropped [] (suc s) p = refl
get-dropped (x ∷ xs) (suc s) p = let at : suc (s + p) ≡ suc s + p = omega arith in get-dropped xs s p ∙ ap (slice_get (x ∷ xs)) at

pub part-next : {A : Type 0} (xs : List A) (s i : ℕ) (x : A) → s ≤ i → slice_get xs i ≡ Some x
    → take (i + 1 - s) (drop s xs) ≡ take (i - s) (drop s xs) ++ x ∷ []
part-next xs s i x low at =
    let one : i + 1 - s ≡ suc (i - s) = omega (arith, low) in rw one (take-next (drop s xs) (i - s) x (grind (arith, get-dropped xs s (i - s))))

-- ---- what references of a listed group may become

module _ (l : TypeList) (listed : Listed l) where
  pub members-are : (s : GroupSpan) → group_of (members_of l s) ≡ map_group (named index_at) index_at (types_in (list_of l).types s)
  members-are s =
      let f = map_sub_type (named index_at) index_at in
      let n = s.end - s.start in
      sym (take-map sub_type_of n (drop s.start l.types)) ∙ ap (take n) (sym (drop-map sub_type_of s.start l.types))
      ∙ ap (λ ts. take n (drop s.start ts)) (sym listed.indexed)
      ∙ ap (take n) (drop-map f s.start (list_of l).types) ∙ take-map f n (drop s.start (list_of l).types)

  -- what each module's index below the group's end has, each reference of the group has
  each-edge : (P : EngineOrModuleTypeIndex → Type 0) (k : ℕ) → k < length (list_of l).groups → ((r : ℕ) → r < (span_at (list_of l) k).end → P (index_at r))
      → All P (edges_of (members_of l (span_at (list_of l) k)))
  each-edge P k lt each =
      let s = span_at (list_of l) k in
      let ts = types_in (list_of l).types s in
      let es = group_edges (index_in {R = ℕ}) ts in
      let near = (stands-at (list_of l) listed.well_named k lt).near in
      let plain : group_edges (λ (r : ℕ). r) (unkinded ts) ≡ map (λ (r : ℕ). r) es =
      group_shape.edges_map (index_in {R = ℕ}) (λ (r : ℕ). r) (index_in {R = ℕ}) (λ (r : ℕ). r) (λ a. refl) ts in
      let below : All (λ r. r < s.end) es = All-from_map (λ r. r < s.end) (λ (r : ℕ). r) es (subst (λ rs. All (λ r. r < s.end) rs) plain near) in
      let placed : All (λ r. P (index_at r)) es = λ n d at. each (get_or es n d) (below n d at) in
      subst (λ rs. All P rs) (sym (ap (λ g. (by_name group_shape).edges g) (members-are s) ∙ (by_name group_shape).edges_map index_at ts))
      (All-map P index_at es placed)

  pub may-cons : (k : ℕ) → k < length (list_of l).groups
      → All (CanBeConsedEdge (IsGiven (span_at (list_of l) k).start) (span_at (list_of l) k).start (span_at (list_of l) k).end)
      (edges_of (members_of l (span_at (list_of l) k)))
  may-cons k lt = each-edge (CanBeConsedEdge (IsGiven (span_at (list_of l) k).start) (span_at (list_of l) k).start (span_at (list_of l) k).end) k lt (λ r below. (λ first. first, λ later. below))

  pub may-use : (k : ℕ) → k < length (list_of l).groups
      → All (CanBeRuntimeEdge (IsGiven (span_at (list_of l) k).end)) (edges_of (members_of l (span_at (list_of l) k)))
  may-use k lt = each-edge (CanBeRuntimeEdge (IsGiven (span_at (list_of l) k).end)) k lt (λ r below. below)
