use Rattle.plan_excess.proofs.LargeFound.{kept-first}
use Rattle.plan_excess.proofs.translated.first_large.Goals as goal

pub returns : goal.returns
returns c =
    kept-first c.args.collector c.in_ok-translation.ensures c.finish-types.result c.as_slice-declared.result.now c.as_slice-tags.result.now
    c.finish-types.ensures.built c.as_slice-declared.ensures c.as_slice-tags.ensures c.large_of-found.result c.large_of-found.ensures
