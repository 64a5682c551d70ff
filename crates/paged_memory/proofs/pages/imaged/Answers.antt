use Rattle.std.proofs.Common.{◌++◌, false, replicate, length, ap, ◌∙◌}
use Rattle.paged_memory.specs.Memory.{page_count}
use Rattle.paged_memory.specs.Pages.{parts_of, joined, lent_of}
use Rattle.paged_memory.proofs.Counts.{image-count}
use Rattle.paged_memory.proofs.Lists.{image-items, image-lent, image-paged}
use Rattle.paged_memory.proofs.pages.imaged.Goals as goal

pub returns-clause-bytes : goal.returns-clause-bytes
returns-clause-bytes c = image-items 0 c.args.len c.args.start c.args.image.now _ _ _ c.requires.within
    (c.in_ok-push_zeros.ensures.bytes ∙ ap (λ l. joined l ++ replicate c.args.start 0) c.new-pages.ensures.items) c.in_ok-push_lent.ensures.bytes c.in_ok-push_zeros-2.ensures.bytes

pub returns-clause-paged : goal.returns-clause-paged
returns-clause-paged c = image-paged c.args.size c.args.len c.args.start (length c.args.image.now) _ _ _ _ c.requires.within c.requires.start c.requires.whole
    (ap parts_of c.new-pages.ensures.items) c.in_ok-push_zeros.ensures.paged c.in_ok-push_lent.ensures.paged c.in_ok-push_zeros-2.ensures.paged

pub returns-clause-lent : goal.returns-clause-lent
returns-clause-lent c = image-lent c.args.size c.args.len c.args.start (length c.args.image.now) _ _ _ c.requires.size c.requires.start c.requires.whole c.requires.within
    (c.in_ok-push_zeros.ensures.lent ∙ ap (λ l. lent_of l ++ replicate (page_count c.args.size c.args.start) false) c.new-pages.ensures.items)
    c.in_ok-push_lent.ensures.lent c.in_ok-push_zeros-2.ensures.lent

pub returns-clause-count : goal.returns-clause-count
returns-clause-count c = image-count _ _ _ _ _ _
    (c.in_ok-push_zeros.ensures.lent ∙ ap (λ l. lent_of l ++ replicate (page_count c.args.size c.args.start) false) c.new-pages.ensures.items)
    c.in_ok-push_lent.ensures.lent c.in_ok-push_zeros-2.ensures.lent
