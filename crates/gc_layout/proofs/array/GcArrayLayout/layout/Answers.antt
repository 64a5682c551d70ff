use Rattle.std.proofs.Common.{◌∙◌, ap, sym, ℕ}
use Rattle.gc_layout.specs.declared.layout.Layout.{Layout}
use Rattle.gc_layout.proofs.Powers.{power-from_test, test-from_power}
use Rattle.gc_layout.proofs.array.GcArrayLayout.layout.Goals as goal

pub returns-then-not-is_power_of_two : goal.returns-then-not-is_power_of_two
returns-then-not-is_power_of_two c holds =
    let power = test-from_power c.args.self.now.align holds.1 in
    cc (power, c.is_power_of_two.ensures, c.if-not-is_power_of_two.true)

pub returns : goal.returns
returns c =
    let power = power-from_test c.args.self.now.align (sym c.is_power_of_two.ensures ∙ c.if-not-is_power_of_two.false) in
    let with_size : ℕ → Layout = λ size. record { size = size; align = c.args.self.now.align } in
    ((c.in_ok-size.ensures.0, power), ap with_size c.in_ok-size.ensures.1)
