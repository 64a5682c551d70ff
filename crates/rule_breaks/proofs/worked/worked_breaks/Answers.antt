use Rattle.std.proofs.Common.{◌<◌, [], ◌∷◌, refl, arith, inr}
use Rattle.std.proofs.lemmas.List.Elements.{All-nil, All-cons, All-head, All-tail}
use Rattle.rule_spec.specs.Lists.{lists_of_module}
use Rattle.rule_spec.specs.Limits.{HasLimits, IsOrdered}
use Rattle.rule_spec.specs.Indices.{IsInSpace}
use Rattle.rule_spec.specs.Worked.{exported_twice, memory_as_a}
use Rattle.rule_spec.specs.WorkedKept.{one_page}
use Rattle.rule_breaks.specs.Worked.{narrow}
use Rattle.rule_breaks.proofs.WorkedEntries.{page_kept, narrow_breaks}
use Rattle.rule_breaks.proofs.worked.worked_breaks.Goals as goal

pub returns-clause-memory : goal.returns-clause-memory
returns-clause-memory c = (
  All-nil IsOrdered,
  record { before = All-cons HasLimits one_page [] page_kept (All-nil HasLimits); listed = omega arith; lacks = narrow_breaks },
)

pub returns-clause-no_later : goal.returns-clause-no_later
returns-clause-no_later c = λ first. narrow_breaks (All-head HasLimits narrow [] (All-tail HasLimits one_page (narrow ∷ []) first.1.before))

pub returns-clause-no_table : goal.returns-clause-no_table
returns-clause-no_table c = λ first. let listed : 0 < 0 = first.listed in absurd (omega (arith, listed))

pub returns-clause-body : goal.returns-clause-body
returns-clause-body c = record { follows = refl; listed = omega arith }

pub returns-clause-name : goal.returns-clause-name
returns-clause-name c = inr (
  All-cons (IsInSpace (lists_of_module exported_twice)) memory_as_a (memory_as_a ∷ []) (omega arith)
      (All-cons (IsInSpace (lists_of_module exported_twice)) memory_as_a [] (omega arith) (All-nil (IsInSpace (lists_of_module exported_twice)))),
  record { before = λ i j d before within. absurd (omega arith); listed = omega arith; repeats = (0, omega arith, refl) },
)
