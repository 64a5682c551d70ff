use Rattle.std.proofs.Common.{◌≡◌, ◌+◌, ◌^◌, ◌<◌, length, get_or, subst, arith}
use Rattle.std.proofs.lemmas.Option.{slice_get-get_or}
use Rattle.memory_images.specs.declared.written.Written.{Written}
use Rattle.memory_images.specs.Contents.{contents_of, end_of}
use Rattle.memory_images.specs.Image.{EndsOf}
use Rattle.memory_images.proofs.Ends.{IsIn, LiesIn, one_more, ends_cut, ends_joined, owned, everywhere}
use Rattle.memory_images.proofs.Lists.{all_at}
use Rattle.memory_images.proofs.span.inner_ends.Goals as goal

abbrev no_range : Written
no_range = record { start = 0; end = 0; segment = 0 }

pub cut-part-requires-clause-owned : goal.cut-part-requires-clause-owned
cut-part-requires-clause-owned c =
    owned c.args.laid.now c.args.ranges.now c.requires.written c.ranges-2.range-index _ (slice_get-get_or c.args.ranges.now c.ranges-2.range-index no_range c.ranges-2-test.true)

pub ends_in-requires : goal.ends_in-requires
ends_in-requires c =
    let at = slice_get-get_or c.args.ranges.now c.ranges-2.range-index no_range c.ranges-2-test.true in
    let part = owned c.args.laid.now c.args.ranges.now c.requires.written c.ranges-2.range-index _ at in
    let fits : end_of part.part < 2 ^ 64 = all_at (λ x. end_of x < 2 ^ 64) c.args.laid.now _ part.part c.requires.fits part.is_part in
    let high = part.high in
    let end = c.cut-part.ensures.end in
    omega (arith, fits, high, end)

pub ranges-2-preserved : goal.ranges-2-preserved
ranges-2-preserved c =
    let ranges = c.args.ranges.now in
    let k = c.ranges-2.range-index in
    rw c.join-ends.ensures
    (ends_joined (contents_of c.args.laid.now) (LiesIn ranges k) (IsIn (get_or ranges k no_range)) (LiesIn ranges (k + 1))
    (one_more ranges k (get_or ranges k no_range) (slice_get-get_or ranges k no_range c.ranges-2-test.true)) _ _ c.ranges-2.invariant
    (ends_cut c.args.laid.now _ c.cut-part.result _ c.cut-part.ensures c.ends_in.ensures.ends c.ends_in.ensures.within))

pub returns : goal.returns
returns c =
    let all : c.ranges-2.range-index ≡ length c.args.ranges.now = let t = c.ranges-2-test.false in let e = c.ranges-2.auto.range-index-end in omega arith in
    everywhere c.args.laid.now c.args.ranges.now c.requires.written c.ranges-2.ends (subst (λ n. EndsOf (contents_of c.args.laid.now) (LiesIn c.args.ranges.now n) c.ranges-2.ends) all c.ranges-2.invariant)
