use Rattle.std.proofs.Common.{◌≡◌, ◌∙◌, ◌+◌, ◌++◌, [], ◌∷◌, length, take, get_or, sym, ap, subst, arith}
use Rattle.std.proofs.lemmas.List.{take_more}
use Rattle.std.proofs.lemmas.List.Sums.{sum_by_more}
use Rattle.indexmap.proofs.SetLemmas.{AllZip-push}
use Rattle.type_registry.specs.Keys.{key_number}
use Rattle.type_registry.specs.declared.key.ModuleKey.{ModuleKey}
use Rattle.plan_link.specs.declared.program.ProgramModule.{ProgramModule}
use Rattle.plan_link.specs.Program.{IsHeldIn}
use Rattle.plan_link.specs.Members.{AreHeld}
use Rattle.plan_link.proofs.Positions.{zip-weaker}
use Rattle.plan_link.proofs.program_types.register_all.Goals as goal

pub loop-module-preserved : goal.loop-module-preserved
loop-module-preserved c =
    let modules = c.args.modules.now in
    let i = c.loop-module.module-index in
    let m = c.module-item.result in
    let key = c.in_ok-register.field-0 in
    let e = c.in_ok-register.ensures in
    let count = sum_by_more (λ (x : ProgramModule). length x.plan.now.types.types) modules i m c.loop-module-test.true in
    let here : get_or modules i m ≡ m = sym c.module-item.is in
    let before = zip-weaker (λ (x : ProgramModule) (k : ModuleKey). IsHeldIn c.loop-module.registry (x, k))
    (λ (x : ProgramModule) (k : ModuleKey). IsHeldIn c.register.new.registry (x, k)) (λ x k. e.others (key_number k) x.plan.now.types) (take i modules)
    c.loop-module.keys.items c.loop-module.invariant.held in
    let more = AllZip-push (λ (x : ProgramModule) (k : ModuleKey). IsHeldIn c.register.new.registry (x, k)) (take i modules) c.loop-module.keys.items m key
    before e.stands in
    record {
      held = subst (AreHeld c.register.new.registry (take (i + 1) modules)) (sym c.in_ok-push.ensures.items)
          (subst (λ ms. AreHeld c.register.new.registry ms (c.loop-module.keys.items ++ key ∷ []))
          (sym (take_more modules i m c.loop-module-test.true ∙ ap (λ x. take i modules ++ x ∷ []) here)) more);
      live = omega (arith, c.loop-module.invariant.live, e.live, count, ap (λ (x : ProgramModule). length x.plan.now.types.types) here);
      most = e.most ∙ c.loop-module.invariant.most;
      counted = omega (arith, e.keys, c.loop-module.invariant.counted);
    }
