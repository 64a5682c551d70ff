-- A well named list may be registered.
use Rattle.std.proofs.Common.{◌≡◌, ◌∙◌, ◌<◌, ◌≤◌, ℕ, ◌+◌, List, [], ◌∷◌, length, map, refl, sym, ap, subst, arith}
use Rattle.std.specs.List.{All}
use Rattle.std.proofs.lemmas.List.{length-map}
use Rattle.std.proofs.lemmas.List.Elements.{All-nil, All-append, All-weaker, All-head, All-tail}
use Rattle.std.proofs.lemmas.Grind.{common_steps, flat_map-append}
use Rattle.wasm_spec.specs.TypeData.{Group, map_sub_type, map_group, sub_type_edges, group_edges}
use Rattle.type_spec.specs.ListLaws.{map-twice}
use Rattle.type_spec.specs.Shapes.{erased}
use Rattle.type_spec.specs.TypeShapes.{group_shape}
use Rattle.type_spec.specs.Names.{named, named-tells, index_of as index_in}
use Rattle.type_spec.specs.Interned.{Interned}
use Rattle.type_spec.specs.Taken.{NameEarlier}
use Rattle.type_spec.proofs.Homes.{joined, size, size-cons}
use Rattle.wasm_types.specs.declared.index.EngineOrModuleTypeIndex.{EngineOrModuleTypeIndex}
use Rattle.wasm_types.specs.ValueViews.{Name}
use Rattle.wasm_types.specs.TypeViews.{sub_type_of, group_of}
use Rattle.module_types.specs.Views.{index_at, interned_number, interned_of}
use Rattle.module_types.specs.TypeList.{TypeList}
use Rattle.module_types.specs.ListGroups.{unkinded, list_groups, IsWellNamed}
use Rattle.module_types.proofs.WellNamed.{AllBelow}
use Rattle.module_types.proofs.Standing.{joined-from}
use Rattle.module_types.specs.Listed.{Listed, list_of}

-- references to earlier types are below the end
pub earlier-below : (gs : List (Group ℕ ℕ)) (start n : ℕ) → NameEarlier start gs → start + size gs ≤ n → AllBelow n (joined gs)
earlier-below [] start n earlier le = All-nil (λ r. r < n)
earlier-below (g ∷ gs) start n earlier le =
    subst (λ rs. All (λ r. r < n) rs) (sym (flat_map-append (sub_type_edges (λ (r : ℕ). r)) g (joined gs)))
    (All-append (λ r. r < n) (group_edges (λ (r : ℕ). r) g) (group_edges (λ (r : ℕ). r) (joined gs))
    (All-weaker (λ r. r < start + length g) (λ r. r < n) (λ r lt. omega (arith, lt, le, size-cons g gs)) _ earlier.0)
    (earlier-below gs (start + length g) n earlier.1 (omega (arith, le, size-cons g gs))))

back : EngineOrModuleTypeIndex → EngineOrModuleTypeIndex
back e = index_at (interned_number e)

-- a reference that is an index below the reserved one is a module's index
one-back : (e : EngineOrModuleTypeIndex) → interned_number e < 4294967295 → back e ≡ e
unfolding back
one-back e h1 = grind (arith, common_steps)

all-back : (n : ℕ) → n ≤ 4294967295 → (es : List EngineOrModuleTypeIndex) → All (λ r. r < n) (map (λ (r : ℕ). r) (map interned_number es))
    → map back es ≡ es
all-back n few [] all = refl
all-back n few (e ∷ es) all = grind (arith, All-head, All-tail, one-back, (all-back n few es (All-tail (λ r. r < n) (interned_number e) (map (λ (r : ℕ). r) (map interned_number es)) all)))

-- data whose references are so is converted back
had-back : (n : ℕ) → n ≤ 4294967295 → (x : Group Name EngineOrModuleTypeIndex) → AllBelow n (unkinded (map_group (named interned_number) interned_number x))
    → map_group (named index_at) index_at (map_group (named interned_number) interned_number x) ≡ x
unfolding back
had-back n few x below =
    let ts = map_group (named interned_number) interned_number x in
    let edges : group_edges (λ (r : ℕ). r) (unkinded ts) ≡ map (λ (r : ℕ). r) (map interned_number (group_edges index_in x)) =
    group_shape.edges_map (index_in {R = ℕ}) (λ (r : ℕ). r) (index_in {R = ℕ}) (λ (r : ℕ). r) (λ a. refl) ts
    ∙ ap (map (λ (r : ℕ). r)) (group_shape.edges_map index_in index_in (named interned_number) interned_number (λ a. refl) x) in
    let fixed = all-back n few (group_edges index_in x) (subst (λ rs. All (λ r. r < n) rs) edges below) in
    group_shape.map_twice (named interned_number) (named index_at) interned_number index_at x
    ∙ group_shape.determined (named (erased {R = EngineOrModuleTypeIndex})) index_in named-tells (map_group (named back) back x) x
    (group_shape.map_twice (named back) (named (erased {R = EngineOrModuleTypeIndex})) back (erased {R = EngineOrModuleTypeIndex}) x)
    (group_shape.edges_map index_in index_in (named back) back (λ a. refl) x ∙ fixed)

pub listed : (l : TypeList) → IsWellNamed (list_of l) → length l.types < 4294967295 → Listed l
listed l w few =
    let ts = (list_of l).types in
    let whole : joined (list_groups (list_of l)) ≡ unkinded ts = joined-from ts (list_of l).groups 0 w.orderly in
    let long : length (unkinded ts) ≡ length l.types = length-map ts (map_sub_type (index_in {R = ℕ}) (λ (r : ℕ). r)) ∙ length-map l.types interned_of in
    let sizes : size (list_groups (list_of l)) ≡ length l.types = ap length whole ∙ long in
    let below : AllBelow (length l.types) (joined (list_groups (list_of l))) =
    earlier-below (list_groups (list_of l)) 0 (length l.types) w.earlier (omega (arith, sizes)) in
    let again : ts ≡ map_group (named interned_number) interned_number (group_of l.types) = sym (twice l) in
    record {
      well_named = w;
      indexed = ap (map_group (named index_at) index_at) again
          ∙ had-back (length l.types) (omega (arith, few)) (group_of l.types)
          (subst (λ (us : List Interned). AllBelow (length l.types) (unkinded us)) again (subst (λ g. AllBelow (length l.types) g) whole below));
    } where
      twice : (l : TypeList) → map_group (named interned_number) interned_number (group_of l.types) ≡ (list_of l).types
      twice l = map-twice sub_type_of (map_sub_type (named interned_number) interned_number) interned_of (λ t. refl) l.types
