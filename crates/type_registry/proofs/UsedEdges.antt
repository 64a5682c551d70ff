-- The types of a new group as they are used.
use Rattle.std.proofs.Common.{◌≡◌, ◌∙◌, ℕ, List, [], ◌∷◌, ◌++◌, length, map, refl, sym, ap, subst, arith}
use Rattle.std.specs.List.{All, AllZip}
use Rattle.std.specs.Prelude.{IsSome}
use Rattle.std.proofs.lemmas.List.Elements.{All-nil, All-cons, All-map, All-weaker, All-head, All-tail}
use Rattle.std.proofs.lemmas.Bool.{ltb-true, ltb-false}
use Rattle.std.proofs.lemmas.List.{get_or_append_left, get_or-append_right}
use Rattle.wasm_spec.specs.TypeData.{Group, map_group, map_sub_type, group_edges, sub_type_edges}
use Rattle.type_spec.specs.Names.{named, by_name, alike-mapped, index_of as index_in}
use Rattle.type_spec.specs.Shapes.{erased}
use Rattle.type_spec.specs.ListLaws.{map-twice}
use Rattle.type_spec.specs.TypeShapes.{group_shape}
use Rattle.type_spec.specs.Interned.{GroupSpan}
use Rattle.wasm_types.specs.declared.index.EngineOrModuleTypeIndex.{EngineOrModuleTypeIndex}
use Rattle.form_types.proofs.AllOf.{All-joined}
use Rattle.wasm_index.specs.declared.index.Index.{Index}
use Rattle.wasm_index.specs.declared.spaces.ModuleInternedTypeSpace.{ModuleInternedTypeSpace}
use Rattle.wasm_types.specs.declared.index.EngineOrModuleTypeIndex.TheVariants as index
use Rattle.wasm_types.specs.declared.sub.WasmSubType.{WasmSubType}
use Rattle.wasm_types.specs.Views.{engine_index}
use Rattle.wasm_types.specs.ValueViews.{Name}
use Rattle.wasm_types.specs.TypeViews.{sub_type_of, group_of}
use Rattle.wasm_trace.specs.Canonical.{CanBeConsedEdge, CanBeRuntimeEdge, consed_edge, runtime_edge}
use Rattle.module_types.specs.ListGroups.{EngineMap}
use Rattle.module_types.specs.TypeList.{TypeList}
use Rattle.type_registry.specs.Registry.{HasEngineEdges, used_edge, used_type}
use Rattle.type_registry.specs.Changes.{members_of, edges_of, given, canonical_data, IsGiven}

module _ (before new : List ℕ) (s : GroupSpan) (at : length before ≡ s.start) where
  abbrev used : EngineOrModuleTypeIndex → EngineOrModuleTypeIndex
  used e = runtime_edge (given (before ++ new)) e

  abbrev consed : EngineOrModuleTypeIndex → EngineOrModuleTypeIndex
  consed e = consed_edge (given before) s.start e

  abbrev Can : EngineOrModuleTypeIndex → Type 0
  Can e = CanBeConsedEdge (IsGiven s.start) s.start s.end e

  -- a reference is used as its canonical form says
  each : (e : EngineOrModuleTypeIndex) → Can e → used e ≡ used_edge new (consed e)
  each e h1 = grind (arith, get_or_append_left, ltb-true, get_or-append_right, ltb-false)

  all-each : (es : List EngineOrModuleTypeIndex) → All Can es → AllZip (λ a b. used a ≡ used_edge new b) es (map consed es)
  all-each [] all = tt
  all-each (e ∷ es) all = (each e (All-head Can e es all), all-each es (All-tail Can e es all))

  pub used-types : (l : TypeList) → All Can (edges_of (members_of l s)) → (types canonical : List WasmSubType)
      → group_of types ≡ map_group (named used) used (group_of (members_of l s))
      → group_of canonical ≡ canonical_data l before s → map sub_type_of types ≡ map (used_type new) canonical
  used-types l can types canonical is canon =
      let x = group_of (members_of l s) in
      let y = map_group (named consed) consed x in
      let t = by_name group_shape in
      let same : map_group (named used) used x ≡ map_group (named (used_edge new)) (used_edge new) y =
      alike-mapped t used (used_edge new) x y (record {
        frames = sym (t.map_twice consed (erased {R = EngineOrModuleTypeIndex}) x);
        edges = subst (λ es. AllZip (λ a b. used a ≡ used_edge new b) (t.edges x) es) (sym (t.edges_map consed x)) (all-each (t.edges x) can);
      }) in
      is ∙ same ∙ ap (map_group (named (used_edge new)) (used_edge new)) (sym canon)
      ∙ map-twice sub_type_of (map_sub_type (named (used_edge new)) (used_edge new)) (used_type new) (λ t. refl) canonical

-- the references of types that are used are the engine's
module _ (engine : EngineMap) (may : Index ModuleInternedTypeSpace → Type 0) where
  abbrev IsEngines : EngineOrModuleTypeIndex → Type 0
  IsEngines e = IsSome (engine_index e)

  used-is : (e : EngineOrModuleTypeIndex) → CanBeRuntimeEdge may e → IsEngines (runtime_edge engine e)
  used-is (index.Engine i) can = refl
  used-is (index.Module i) can = refl
  used-is (index.RecGroup i) can = absurd can

  each-engines : (types : List WasmSubType) → All IsEngines (group_edges index_in (group_of types)) → All HasEngineEdges types
  each-engines [] all = All-nil HasEngineEdges
  each-engines (t ∷ ts) all =
      let parts = (All-joined IsEngines (sub_type_edges index_in (sub_type_of t)) (group_edges index_in (group_of ts))).0 all in
      All-cons HasEngineEdges t ts parts.0 (each-engines ts parts.1)

  pub used-engines : (x : Group Name EngineOrModuleTypeIndex) (types : List WasmSubType) → All (CanBeRuntimeEdge may) (group_edges index_in x)
      → group_of types ≡ map_group (named (runtime_edge engine)) (runtime_edge engine) x → All HasEngineEdges types
  used-engines x types can is =
      let edges : group_edges index_in (group_of types) ≡ map (runtime_edge engine) (group_edges index_in x) =
      ap (group_edges index_in) is ∙ (by_name group_shape).edges_map (runtime_edge engine) x in
      each-engines types (subst (All IsEngines) (sym edges)
      (All-map IsEngines (runtime_edge engine) (group_edges index_in x)
      (All-weaker (CanBeRuntimeEdge may) (λ e. IsEngines (runtime_edge engine e)) used-is (group_edges index_in x) can)))
