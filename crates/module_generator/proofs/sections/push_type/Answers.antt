use Rattle.std.proofs.Common.{◌≡◌, ◌++◌, map, ap, ◌∙◌, arith}
use Rattle.std.specs.List.{range_with_len}
use Rattle.module_generator.specs.Generated.{parameter, function_type}
use Rattle.module_generator.proofs.Places.{next-number, framed}
use Rattle.module_generator.proofs.sections.push_type.Goals as goal

pub loop-j-preserved : goal.loop-j-preserved
loop-j-preserved c =
    next-number (parameter c.args.k) c.loop-j.j _ _ _ _ c.loop-j.invariant c.parameter_type.ensures c.in_ok-push.ensures.items

pub returns : goal.returns
unfolding function_type
returns c =
    let all : c.loop-j.j ≡ 16 = omega arith in
    framed _ _ _ _ _ _ _ _ c.in_ok-extend_from_slice.ensures.items
    (c.loop-j.invariant ∙ ap (λ j. c.extend_from_slice.new.self.items ++ map (parameter c.args.k) (range_with_len 0 j)) all)
    c.in_ok-push-2.ensures.items
