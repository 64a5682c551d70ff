-- The edges that are the engine's, and the two forms in which types are compared and used.
use Rattle.std.specs.Prelude.{◌≡◌, ◌<◌, ◌≤◌, ◌-◌, ℕ, List, ⊤, if◌then◌else◌, nat_lt}
use Rattle.std.specs.List.{filter_map}
use Rattle.wasm_index.specs.Index.{number_of, index_of}
use Rattle.wasm_index.specs.declared.index.Index.{Index}
use Rattle.wasm_index.specs.declared.spaces.VMSharedTypeSpace.{VMSharedTypeSpace}
use Rattle.wasm_index.specs.declared.spaces.ModuleInternedTypeSpace.{ModuleInternedTypeSpace}
use Rattle.wasm_types.specs.declared.index.EngineOrModuleTypeIndex.{EngineOrModuleTypeIndex}
use Rattle.wasm_types.specs.declared.index.EngineOrModuleTypeIndex.TheVariants.{Engine, Module, RecGroup}
use Rattle.wasm_types.specs.Views.{engine_index}

-- the engine's indices in the edges, in order
abbrev pub engine_edges : List EngineOrModuleTypeIndex → List (Index VMSharedTypeSpace)
engine_edges es = filter_map engine_index es

-- what a visit of the engine's edges alone requires at an edge
abbrev pub AtEngineEdge : (Index VMSharedTypeSpace → Type 0) → EngineOrModuleTypeIndex → Type 0
AtEngineEdge needs (Engine i) = needs i
AtEngineEdge needs _ = ⊤

module _ (table : Index ModuleInternedTypeSpace → Index VMSharedTypeSpace → Type 0) where
  -- the engine's index of a module's type
  abbrev pub IsEngineIndexOf : Index ModuleInternedTypeSpace → EngineOrModuleTypeIndex → Type 0
  IsEngineIndexOf i new = (engine : Index VMSharedTypeSpace) × table i engine × (new ≡ Engine engine)

  -- the new value of an edge where all edges become the engine's
  abbrev pub IsRuntimeEdge : EngineOrModuleTypeIndex → EngineOrModuleTypeIndex → Type 0
  IsRuntimeEdge (Engine i) new = new ≡ Engine i
  IsRuntimeEdge (Module i) new = IsEngineIndexOf i new
  IsRuntimeEdge (RecGroup i) new = ⊥

  -- the new value of an edge where edges into the types from `start` on become relative to `start`,
  -- and all others become the engine's
  abbrev pub IsConsedEdge : ℕ → EngineOrModuleTypeIndex → EngineOrModuleTypeIndex → Type 0
  IsConsedEdge start (Engine i) new = new ≡ Engine i
  IsConsedEdge start (Module i) new =
      (number_of i < start → IsEngineIndexOf i new)
      × (start ≤ number_of i → new ≡ RecGroup (index_of (number_of i - start)))
  IsConsedEdge start (RecGroup i) new = ⊥

module _ (may : Index ModuleInternedTypeSpace → Type 0) where
  -- an edge that can be rewritten so: none is into a group, and the table may be called at each
  -- module index
  abbrev pub CanBeRuntimeEdge : EngineOrModuleTypeIndex → Type 0
  CanBeRuntimeEdge (Engine i) = ⊤
  CanBeRuntimeEdge (Module i) = may i
  CanBeRuntimeEdge (RecGroup i) = ⊥

  -- an edge that can be rewritten so: none is into a group, the table may be called below the
  -- range, and none is past it
  abbrev pub CanBeConsedEdge : ℕ → ℕ → EngineOrModuleTypeIndex → Type 0
  CanBeConsedEdge start end (Engine i) = ⊤
  CanBeConsedEdge start end (Module i) = (number_of i < start → may i) × (start ≤ number_of i → number_of i < end)
  CanBeConsedEdge start end (RecGroup i) = ⊥

-- a table that returns what a function gives
abbrev pub Gives : (Index ModuleInternedTypeSpace → Index VMSharedTypeSpace → Type 0) → (Index ModuleInternedTypeSpace → Index VMSharedTypeSpace)
    → Type 0
Gives table engine = (i : Index ModuleInternedTypeSpace) (e : Index VMSharedTypeSpace) → table i e → e ≡ engine i

module _ (engine : Index ModuleInternedTypeSpace → Index VMSharedTypeSpace) where
  -- an edge in types that are used
  abbrev pub runtime_edge : EngineOrModuleTypeIndex → EngineOrModuleTypeIndex
  runtime_edge (Module i) = Engine (engine i)
  runtime_edge e = e

  -- an edge in types that are compared, those of a group from `start` on
  abbrev pub consed_edge : ℕ → EngineOrModuleTypeIndex → EngineOrModuleTypeIndex
  consed_edge start (Module i) =
      if nat_lt (number_of i) start then Engine (engine i) else RecGroup (index_of (number_of i - start))
  consed_edge start e = e
