use Rattle.std.proofs.Common.{◌≡◌, ◌∷◌, All, List, ℕ, subst, arith}
use Rattle.std.proofs.lemmas.Grind.{common_steps}
use Rattle.std.proofs.lemmas.List.Elements.{All-tail}
use Rattle.entity_map.specs.declared.pool.Atom.{Atom}
use Rattle.wasm_types.specs.declared.entity.EntityIndex.{EntityIndex}
use Rattle.plan_lines.specs.NameLines.{IsInPool}
use Rattle.plan_tables.proofs.names.exports_record.Goals as goal

-- the names that remain after one
rest_in_pool : (pool : List (List ℕ)) (it rest : List (Atom × EntityIndex)) (x : Atom × EntityIndex) → it ≡ x ∷ rest
    → All (λ export. IsInPool pool export.0) it → All (λ export. IsInPool pool export.0) rest
rest_in_pool pool it rest x is all = All-tail (λ export. IsInPool pool export.0) x rest (subst (All (λ export. IsInPool pool export.0)) is all)

pub loop-name-preserved : goal.loop-name-preserved
loop-name-preserved c = record {
  rows = grind (arith, common_steps);
  names = grind (arith, common_steps);
  in_pool = rest_in_pool _ _ _ _ c.in-Some.ensures.steps c.loop-name.invariant.in_pool;
}
