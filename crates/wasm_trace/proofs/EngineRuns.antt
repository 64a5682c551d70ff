-- A run over all edges whose visitor passes the engine's edges on to another visitor is a run of
-- that other visitor over the engine's edges.
use Rattle.std.proofs.Common.{◌≡◌, ◌∙◌, List, [], ◌∷◌, ◌++◌, Result, Ok, Err, ap, subst, inl, inr}
use Rattle.std.specs.Fn.{Mut, Called, Takes}
use Rattle.std.proofs.lemmas.List.Elements.{filter_map-append}
use Rattle.wasm_index.specs.declared.index.Index.{Index}
use Rattle.wasm_index.specs.declared.spaces.VMSharedTypeSpace.{VMSharedTypeSpace}
use Rattle.wasm_types.specs.declared.index.EngineOrModuleTypeIndex.{EngineOrModuleTypeIndex}
use Rattle.wasm_types.specs.declared.index.EngineOrModuleTypeIndex.TheVariants.{Engine, Module, RecGroup}
use Rattle.wasm_types.specs.Views.{engine_index}
use Rattle.wasm_trace.specs.Canonical.{engine_edges, AtEngineEdge}
use Rattle.wasm_trace.specs.Runs.{Run, MayRun}

-- the outer visitor holds the inner one, `held`, by a reference with a fixed name
module _ {S F E N : Type 0} (inner : Mut F (Index VMSharedTypeSpace × Unit {0}) (Result (Unit {0}) E)) (held : S → F) (name : S → N) where
  -- what a visit of the outer visitor does
  abbrev pub PassesOn : S → EngineOrModuleTypeIndex → Result (Unit {0}) E → S → Type 0
  PassesOn s (Engine i) r s' = Called inner (held s) (i, tt) r (held s')
  PassesOn s _ r s' = (r ≡ Ok tt) × (held s' ≡ held s)

  module _ (outer : Mut S (EngineOrModuleTypeIndex × Unit {0}) (Result (Unit {0}) E))
      (visits : (s : S) (e : EngineOrModuleTypeIndex) (r : Result (Unit {0}) E) (s' : S) → Called outer s (e, tt) r s'
      → PassesOn s e r s' × (name s' ≡ name s)) where
    -- an edge that is skipped
    over : (es : List EngineOrModuleTypeIndex) (s t : S) (r : Result (Unit {0}) E) (s' : S) → (held t ≡ held s) × (name t ≡ name s)
        → Run inner (held t) (engine_edges es) r (held s') × (name s' ≡ name t)
        → Run inner (held s) (engine_edges es) r (held s') × (name s' ≡ name s)
    over es s t r s' here rest = (subst (λ f. Run inner f (engine_edges es) r (held s')) here.0 rest.0, rest.1 ∙ here.1)

    pub Run-engine : (es : List EngineOrModuleTypeIndex) (s : S) (r : Result (Unit {0}) E) (s' : S) → Run outer s es r s'
        → Run inner (held s) (engine_edges es) r (held s') × (name s' ≡ name s)
    Run-engine [] s r s' run = ((run.0, ap held run.1), ap name run.1)
    Run-engine (Engine i ∷ es) s r s' (inl stop) =
        let here = visits s (Engine i) (Err stop.0) s' stop.1 in
        (inl (stop.0, here.0, stop.2), here.1)
    Run-engine (Engine i ∷ es) s r s' (inr more) =
        let here = visits s (Engine i) (Ok tt) more.0 more.1 in
        let rest = Run-engine es more.0 r s' more.2 in
        (inr (held more.0, here.0, rest.0), rest.1 ∙ here.1)
    Run-engine (Module i ∷ es) s r s' (inl stop) =
        let impossible : Err stop.0 ≡ Ok tt = (visits s (Module i) (Err stop.0) s' stop.1).0.0 in cc
    Run-engine (Module i ∷ es) s r s' (inr more) =
        let here = visits s (Module i) (Ok tt) more.0 more.1 in
        over es s more.0 r s' (here.0.1, here.1) (Run-engine es more.0 r s' more.2)
    Run-engine (RecGroup i ∷ es) s r s' (inl stop) =
        let impossible : Err stop.0 ≡ Ok tt = (visits s (RecGroup i) (Err stop.0) s' stop.1).0.0 in cc
    Run-engine (RecGroup i ∷ es) s r s' (inr more) =
        let here = visits s (RecGroup i) (Ok tt) more.0 more.1 in
        over es s more.0 r s' (here.0.1, here.1) (Run-engine es more.0 r s' more.2)

    -- the inner visitor may be called wherever an engine's edge occurs
    pub Run-comes : (es : List EngineOrModuleTypeIndex) (s : S) → MayRun inner (held s) (engine_edges es)
        → (past rest : List EngineOrModuleTypeIndex) (e : EngineOrModuleTypeIndex) (now : S) → es ≡ past ++ e ∷ rest → Run outer s past (Ok tt) now
        → AtEngineEdge (λ i. Takes inner (held now) (i, tt)) e
    Run-comes es s may past rest (Engine i) now split run =
        may.at (engine_edges past) (engine_edges rest) i (held now)
        (ap engine_edges split ∙ filter_map-append engine_index past (Engine i ∷ rest)) (Run-engine past s (Ok tt) now run).0
    Run-comes es s may past rest (Module i) now split run = tt
    Run-comes es s may past rest (RecGroup i) now split run = tt
