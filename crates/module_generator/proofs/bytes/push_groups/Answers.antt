use Rattle.std.proofs.Common.{refl, ◌∙◌}
use Rattle.module_generator.proofs.Groups.{spelled-next, spelled-last}
use Rattle.module_generator.proofs.bytes.push_groups.Goals as goal

pub loop-rest-preserved : goal.loop-rest-preserved
loop-rest-preserved c =
    rw c.in_ok-push.ensures.items (spelled-next _ _ _ _ _ c.requires.low c.loop-rest-test.true refl c.loop-rest.invariant)

pub returns : goal.returns
returns c = c.in_ok-push-2.ensures.items ∙ spelled-last _ _ _ _ c.loop-rest-test.false c.loop-rest.invariant
