use Rattle.std.proofs.Common.{◌/◌, ◌≤◌, drop, length, ap, subst, ◌∙◌, rules}
use Rattle.std.proofs.lemmas.List.{take_at}
use Rattle.std.proofs.lemmas.Result.{on_err_weaker}
use Rattle.paged_memory.specs.Memory.{reached, not_lent}
use Rattle.paged_memory.specs.Pages.{lent_of}
use Rattle.paged_memory.proofs.memory.PagedMemory.write.Goals as goal

pub returns-clause-some : goal.returns-clause-some
returns-clause-some c =
    let inside = c.self.inside in
    let pages = c.write_pages.new.pages in
    let same = take_at pages (drop (length pages) inside.pages.items) inside.pages.len (search rules) in
    on_err_weaker c.write_pages.result
    (λ begun. (
      begun.0,
      subst (λ m. begun.0 ≤ reached m.page c.args.at c.args.bytes.now) c.self.view_is begun.1,
      ap lent_of same ∙ begun.2 ∙ ap (λ l. not_lent (c.args.at / inside.size) begun.0 (lent_of l)) c.deref_mut.ensures.value
          ∙ ap (λ m. not_lent (c.args.at / m.page) begun.0 m.lent) c.self.view_is,
    ))
    c.write_pages.ensures.some
