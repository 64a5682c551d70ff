use Rattle.std.proofs.Common.{◌≡◌, ◌∙◌, ℕ, ap, sym, length, subst}
use Rattle.std.specs.Prelude.{IfOk}
use Rattle.import_match.proofs.Keeping.{length-in_order}
use Rattle.import_match.proofs.definitions.Definitions.append.Goals as goal

pub returns-clause-number : goal.returns-clause-number
returns-clause-number c =
    subst (λ (n : ℕ). IfOk c.insert.result (λ number. number ≡ n)) (sym (length-in_order c.self.inside.numbered.entries) ∙ ap length c.self.view_is)
    c.insert.ensures.number
