use Rattle.std.proofs.Common.{◌+◌, get_or, take, sym, subst}
use Rattle.std.specs.List.{AllZip}
use Rattle.std.proofs.lemmas.Option.{slice_get-get_or}
use Rattle.plan_text.specs.declared.plan.Plan.{Plan}
use Rattle.translate.specs.Options.{options_of}
use Rattle.planner_c.specs.Members.{HasThisPlan}
use Rattle.planner_c.proofs.Nothing.{nothing}
use Rattle.planner_c.proofs.Placing.{zip-more, zip-left}
use Rattle.planner_c.proofs.program_plans.plans_of.Goals as goal

pub returns-in-Err-clause-refused : goal.returns-in-Err-clause-refused
returns-in-Err-clause-refused c =
    let modules = c.args.modules.now in
    let i = c.loop-place.place in
    record {
      refused = get_or modules i nothing;
      at = slice_get-get_or modules i nothing c.loop-place-test.true;
      before = zip-left (HasThisPlan (options_of c.args.command.now)) (take i modules) c.loop-place.plans.items c.loop-place.invariant;
      cause = c.in-Err.ensures.cause;
      complete = c.in-Err.ensures.complete;
    }

pub loop-place-preserved : goal.loop-place-preserved
loop-place-preserved c =
    let modules = c.args.modules.now in
    let i = c.loop-place.place in
    let Has = HasThisPlan (options_of c.args.command.now) in
    let one = c.in_default.ensures.planned in
    subst (AllZip Has (take (i + 1) modules)) (sym one.added)
    (zip-more Has modules c.loop-place.plans.items i nothing one.plan c.loop-place-test.true c.loop-place.invariant one.planned)
