use Rattle.std.proofs.Common.{◌≡◌, true, false, sym, ◌∙◌}
use Rattle.std.specs.Int.{is_power_of_two}
use Rattle.command_words.proofs.Powers.{power_decides}
use Rattle.planner_c.proofs.options.checked_power.Goals as goal

pub returns-then-is_power_of_two-clause-power : goal.returns-then-is_power_of_two-clause-power
returns-then-is_power_of_two-clause-power c = (power_decides c.args.number).0 (sym c.is_power_of_two.ensures ∙ c.if-is_power_of_two.true)

pub returns-then-is_power_of_two-clause-right : goal.returns-then-is_power_of_two-clause-right
returns-then-is_power_of_two-clause-right c = λ some. (power_decides c.args.number).0 (sym c.is_power_of_two.ensures ∙ c.if-is_power_of_two.true)

-- what fails the test is no power
pub returns-else-is_power_of_two-clause-wrong : goal.returns-else-is_power_of_two-clause-wrong
returns-else-is_power_of_two-clause-wrong c = λ none power.
    let holds : is_power_of_two c.args.number ≡ true = (power_decides c.args.number).1 power in
    let fails : is_power_of_two c.args.number ≡ false = sym c.is_power_of_two.ensures ∙ c.if-is_power_of_two.false in
    let both : true ≡ false = sym holds ∙ fails in
    cc
