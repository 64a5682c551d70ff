use Rattle.std.proofs.Common.{sym, ◌∙◌}
use Rattle.command_words.proofs.Powers.{power_decides, no-power}
use Rattle.command_words.proofs.numbers.read_power.Goals as goal

pub returns-then-is_power_of_two-clause-power : goal.returns-then-is_power_of_two-clause-power
returns-then-is_power_of_two-clause-power c =
    (power_decides c.in_ok-number.number).0 (sym c.is_power_of_two.ensures ∙ c.if-is_power_of_two.true)

pub returns-else-is_power_of_two-clause-complete : goal.returns-else-is_power_of_two-clause-complete
returns-else-is_power_of_two-clause-complete c = λ n fits power e.
    absurd
    (no-power _ n _ (sym c.in_ok-number.was ∙ c.read_number.ensures.complete n fits e) c.is_power_of_two.ensures
    c.if-is_power_of_two.false power)
