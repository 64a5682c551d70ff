use Rattle.std.specs.List.{All}
use Rattle.plan_laws.specs.Kept.{Rises}
use Rattle.plan_laws.specs.Same.{local_names}
use Rattle.plan_laws.proofs.kept.keep_locals.Given as goal

-- if those that remain are in order, all are
abbrev pub invariant-loop-locals : goal.invariant-loop-locals
invariant-loop-locals l = All (λ entry. Rises (local_names entry.1)) l.locals-iterator → All (λ entry. Rises (local_names entry.1)) l.names.entries
