-- Where a function of module indices gives the engine's indices, a function of edges gives what
-- each edge becomes.
use Rattle.std.proofs.Common.{◌≡◌, ◌∙◌, ◌-◌, ℕ, Bool, true, false, nat_lt, if◌then◌else◌, refl, ap}
use Rattle.std.proofs.lemmas.Bool.{ltb-true, ltb-false}
use Rattle.wasm_types.specs.declared.index.EngineOrModuleTypeIndex.{EngineOrModuleTypeIndex}
use Rattle.wasm_types.specs.declared.index.EngineOrModuleTypeIndex.TheVariants.{Engine, Module, RecGroup}
use Rattle.wasm_index.specs.Index.{number_of, index_of}
use Rattle.wasm_index.specs.declared.index.Index.{Index}
use Rattle.wasm_index.specs.declared.spaces.VMSharedTypeSpace.{VMSharedTypeSpace}
use Rattle.wasm_index.specs.declared.spaces.ModuleInternedTypeSpace.{ModuleInternedTypeSpace}
use Rattle.wasm_trace.specs.Canonical.{IsRuntimeEdge, IsConsedEdge, Gives, runtime_edge, consed_edge}

module _ (table : Index ModuleInternedTypeSpace → Index VMSharedTypeSpace → Type 0) (engine : Index ModuleInternedTypeSpace → Index VMSharedTypeSpace)
    (gives : Gives table engine) where
  pub runtime-becomes : (e e' : EngineOrModuleTypeIndex) → IsRuntimeEdge table e e' → e' ≡ runtime_edge engine e
  runtime-becomes (Engine i) e' is = is
  runtime-becomes (Module i) e' is = is.2 ∙ ap Engine (gives i is.0 is.1)
  runtime-becomes (RecGroup i) e' is = absurd is

  pub consed-becomes : (start : ℕ) (e e' : EngineOrModuleTypeIndex) → IsConsedEdge table start e e' → e' ≡ consed_edge engine start e
  consed-becomes start (Engine i) e' is = is
  consed-becomes start (Module i) e' is = by_test (nat_lt (number_of i) start) refl
    where
      by_test : (b : Bool) → nat_lt (number_of i) start ≡ b
          → e' ≡ (if b then Engine (engine i) else RecGroup (index_of (number_of i - start)))
      by_test true below =
          let new = is.0 (ltb-true (number_of i) start below) in
          new.2 ∙ ap Engine (gives i new.0 new.1)
      by_test false above = is.1 (ltb-false (number_of i) start above)
  consed-becomes start (RecGroup i) e' is = absurd is
