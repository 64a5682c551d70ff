use Rattle.std.proofs.Common.{All, refl, rules, subst, arith}
use Rattle.std.proofs.lemmas.List.{take_all}
use Rattle.std.proofs.lemmas.List.Elements.{All-more}
use Rattle.planner_c.specs.Programs.{HasName}
use Rattle.planner_c.proofs.Nothing.{nothing}
use Rattle.planner_c.proofs.program_plans.are_named.Goals as goal

pub loop-module-preserved : goal.loop-module-preserved
loop-module-preserved c =
    All-more HasName c.args.modules.now c.loop-module.module-index nothing c.loop-module-test.true c.loop-module.invariant (c.has_name.ensures.0 (search rules))

pub returns : goal.returns
returns c = (
  λ is. subst (All HasName) (take_all c.loop-module.module-index c.args.modules.now (omega (arith, c.loop-module-test.false))) c.loop-module.invariant,
  λ all. refl,
)
