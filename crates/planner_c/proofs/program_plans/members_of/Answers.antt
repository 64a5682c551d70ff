use Rattle.std.proofs.Common.{◌≡◌, ◌∙◌, ◌<◌, ◌+◌, ◌++◌, [], ◌∷◌, List, length, map, take, sym, ap, subst, arith}
use Rattle.std.specs.List.{AllZip}
use Rattle.std.proofs.lemmas.List.{map-append, take_more}
use Rattle.plan_text.specs.declared.plan.Plan.{Plan}
use Rattle.plan_link.specs.declared.program.ProgramModule.{ProgramModule}
use Rattle.planner_c.specs.Members.{IsNamedAs}
use Rattle.planner_c.proofs.Nothing.{nothing}
use Rattle.planner_c.proofs.Placing.{zip-more}
use Rattle.planner_c.proofs.program_plans.members_of.Goals as goal

pub loop-place-preserved : goal.loop-place-preserved
loop-place-preserved c =
    let modules = c.args.modules.now in
    let plans = c.args.plans.now in
    let i = c.loop-place.place in
    let items = c.loop-place.members.items in
    let inv = c.loop-place.invariant in
    let m = c.member_of.result in
    let p = c.index-plans-place.result in
    let all = c.in_ok-push.ensures.items in
    let plan_of : ProgramModule → Plan = λ x. x.plan.now in
    let within : i < length plans = omega (arith, c.requires.long, c.loop-place-test.true) in
    record {
      named = subst (AllZip IsNamedAs (take (i + 1) modules)) (sym all)
          (zip-more IsNamedAs modules items i nothing m c.loop-place-test.true inv.named c.member_of.ensures.named);
      plans = ap (map plan_of) all
          ∙ map-append plan_of items (m ∷ [])
          ∙ ap (λ (ps : List Plan). ps ++ plan_of m ∷ []) inv.plans
          ∙ ap (λ (x : Plan). take i plans ++ x ∷ []) (c.member_of.ensures.plan ∙ c.index-plans-place.is)
          ∙ sym (take_more plans i p within);
    }
