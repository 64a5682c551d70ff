use Rattle.std.proofs.Common.{◌∙◌, ℕ, List, sym, ap}
use Rattle.std.specs.Borrow.{Bor}
use Rattle.std.specs.Option.{option_map}
use Rattle.module_customs.specs.Hints.{hints_in}
use Rattle.module_customs.proofs.AsTold.{hints_as_told}
use Rattle.module_customs.proofs.hints.hints_in.Goals as goal

pub returns-in_ok-read_hints-in-Some : goal.returns-in_ok-read_hints-in-Some
returns-in_ok-read_hints-in-Some c =
    c.in_ok-read_hints-in-Some.ensures.read
    ∙ sym (hints_as_told c.in-Some.contents.now)
    ∙ ap hints_in (ap (option_map (λ (b : Bor (List ℕ)). b.now)) (sym c.in-Some.is) ∙ c.contents_named.ensures)
