use Rattle.std.proofs.Common.{◌∙◌, inl, inr, drop, ap, refl, arith}
use Rattle.std.proofs.lemmas.Bool.{false≢true}
use Rattle.plan_run.proofs.limits.is_too_large.Goals as goal

pub returns-then-have_too_many_pages : goal.returns-then-have_too_many_pages
returns-then-have_too_many_pages c =
    let memories = c.split_at.ensures.back ∙ ap (drop c.args.translation.now.«module».num_imported_memories) c.as_slice.ensures in
    (λ is. inr (inl (rw (memories, c.page_size.ensures) at (c.have_too_many_pages.ensures.0 c.if-have_too_many_pages.true))), λ is. refl)

pub returns : goal.returns
returns c =
    let t = c.args.translation.now in
    let memories = c.split_at.ensures.back ∙ ap (drop t.«module».num_imported_memories) c.as_slice.ensures in
    let tables = c.split_at-2.ensures.back ∙ ap (drop t.«module».num_imported_tables) c.as_slice-2.ensures in
    let bytes = rw memories at c.have_too_many_bytes.ensures in
    let pages = rw (memories, c.page_size.ensures) at c.have_too_many_pages.ensures in
    let cells = rw tables at c.have_too_many_cells.ensures in
    grind (arith, false≢true)
