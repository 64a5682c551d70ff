use Rattle.std.proofs.Common.{◌≡◌, ◌+◌, ℕ, length, map, ap, subst, arith}
use Rattle.form_reader.specs.Views.{sub_type_of}
use Rattle.rule_spec.specs.Lists.{declared_from}
use Rattle.rule_breaks.specs.TypeFlags.{IsWell}
use Rattle.rule_breaks.proofs.Searching.{Passes, empty, passes_none, passes_all, passes_more, passes_fails}
use Rattle.rule_breaks.proofs.declared.first_bad_member.Goals as goal

pub loop-first-init : goal.loop-first-init
loop-first-init c =
    let e : c.args.start + 0 ≡ c.args.start = omega arith in
    record {
      long = omega arith;
      passes = passes_none _ _ _ (ap (λ n. declared_from (c.args.start + length c.args.types.now) n (map sub_type_of c.args.types.now)) e);
    }

pub loop-first-preserved : goal.loop-first-preserved
loop-first-preserved c =
    let end = c.args.start + length c.args.types.now in
    let at = ap (λ l. declared_from end (c.args.start + c.loop-first.number) (map sub_type_of l)) c.in-Some.ensures.cases.0 in
    let all = declared_from end c.args.start (map sub_type_of c.args.types.now) in
    let next : ℕ = c.in_ok-number.number in
    let e : c.args.start + c.loop-first.number + 1 ≡ c.args.start + next = omega (arith, c.in_ok-number.ensures) in
    record {
      long = omega (arith, c.loop-first.invariant.long, c.in-Some.ensures.cases.1, c.in_ok-number.ensures);
      passes = subst (λ n. Passes (IsWell c.args.functions.now) next (declared_from end n (map sub_type_of c.in-Some.others.now)) all) e
          (passes_more (IsWell c.args.functions.now) _ _ _ _ _ c.loop-first.invariant.passes at _ c.in_ok-number.ensures (c.is_well.ensures.0 c.if-not-is_well.false));
    }

pub returns-then-not-is_well : goal.returns-then-not-is_well
returns-then-not-is_well c =
    let at = ap (λ l. declared_from (c.args.start + length c.args.types.now) (c.args.start + c.loop-first.number) (map sub_type_of l)) c.in-Some.ensures.cases.0 in
    passes_fails (IsWell c.args.functions.now) _ _ _ _ _ c.loop-first.invariant.passes at _ c.if-not-is_well.true c.is_well.ensures

pub returns : goal.returns
returns c =
    passes_all (IsWell c.args.functions.now) _ _ _ c.loop-first.invariant.passes
    (ap (λ l. declared_from (c.args.start + length c.args.types.now) (c.args.start + c.loop-first.number) (map sub_type_of l)) (empty _ c.in_default.ensures.cases))
