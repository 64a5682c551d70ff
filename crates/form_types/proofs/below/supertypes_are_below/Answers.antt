use Rattle.std.proofs.Common.{◌+◌, length, map, ap, arith}
use Rattle.form_reader.specs.Views.{sub_type_of}
use Rattle.rule_spec.specs.Lists.{declared_from}
use Rattle.form_types.specs.Below.{HasSupertypeBelow}
use Rattle.form_types.proofs.AllOf.{left_more, left_fails}
use Rattle.form_types.proofs.below.supertypes_are_below.Goals as goal

pub loop-first-preserved : goal.loop-first-preserved
loop-first-preserved c =
    let at = ap (λ l. declared_from (c.args.start + length c.args.types.now) c.loop-first.index (map sub_type_of l)) c.in-Some.ensures.cases.0 in
    record {
      long = omega (arith, c.loop-first.invariant.long, c.in-Some.ensures.cases.1);
      tells = left_more HasSupertypeBelow _ _ _ _ at c.loop-first.invariant.tells (c.supertype_is_below.ensures.0 c.if-not-supertype_is_below.false);
    }

pub returns-then-not-supertype_is_below : goal.returns-then-not-supertype_is_below
returns-then-not-supertype_is_below c =
    let at = ap (λ l. declared_from (c.args.start + length c.args.types.now) c.loop-first.index (map sub_type_of l)) c.in-Some.ensures.cases.0 in
    left_fails HasSupertypeBelow _ _ _ _ at c.loop-first.invariant.tells _ c.if-not-supertype_is_below.true c.supertype_is_below.ensures
