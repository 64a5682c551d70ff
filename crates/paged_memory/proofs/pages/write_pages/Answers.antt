use Rattle.std.proofs.Common.{◌+◌, ◌-◌, ◌/◌, ◌<◌, ◌≤◌, length, sym, ap, ◌∙◌, arith}
use Rattle.std.proofs.lemmas.Nat.{le-div}
use Rattle.std.proofs.lemmas.Result.{err_from_is_err_and}
use Rattle.std.proofs.Math.Nat.{div-mul-le_self}
use Rattle.paged_memory.specs.declared.page.Page.TheVariants.{Zero}
use Rattle.paged_memory.specs.Memory.{not_lent}
use Rattle.paged_memory.specs.Pages.{joined, lent_of}
use Rattle.paged_memory.proofs.Counts.{reached-is}
use Rattle.paged_memory.proofs.Place.{there}
use Rattle.paged_memory.proofs.pages.write_pages.Goals as goal

pub own_pages-requires-clause-order : goal.own_pages-requires-clause-order
own_pages-requires-clause-order c =
    let some : 0 < length c.args.bytes.now = grind (arith, c.is_empty.ensures, c.if-is_empty.false) in
    let first : c.args.at / c.args.size ≤ (c.args.at + length c.args.bytes.now - 1) / c.args.size =
    le-div (c.args.at / c.args.size) (c.args.at + length c.args.bytes.now - 1) c.args.size c.requires.size (omega (arith, div-mul-le_self c.args.at c.args.size, some)) in
    omega (arith, first)

pub own_pages-requires-clause-within : goal.own_pages-requires-clause-within
own_pages-requires-clause-within c =
    let some : 0 < length c.args.bytes.now = grind (arith, c.is_empty.ensures, c.if-is_empty.false) in
    let last = c.args.at + length c.args.bytes.now - 1 in
    omega (arith, there c.args.pages.now c.args.size (length (joined c.args.pages.now)) last (Zero 0) c.requires.size c.requires.paged (omega (arith, some, c.requires.within)))

pub returns-in_err-own_pages-clause-some : goal.returns-in_err-own_pages-clause-some
returns-in_err-own_pages-clause-some c =
    let some : 0 < length c.args.bytes.now = grind (arith, c.is_empty.ensures, c.if-is_empty.false) in
    let p = err_from_is_err_and c.from_residual.result c.from_residual.ensures.1 in
    let begun = c.in_err-own_pages.ensures.err in
    rw p.1 (begun.0, omega (arith, begun.1, reached-is c.args.size c.args.at c.args.bytes.now some), begun.2)

pub returns-clause-lent : goal.returns-clause-lent
returns-clause-lent c =
    let some : 0 < length c.args.bytes.now = grind (arith, c.is_empty.ensures, c.if-is_empty.false) in
    c.put.ensures.lent ∙ c.in_ok-own_pages.ensures.lent
    ∙ ap (λ n. not_lent (c.args.at / c.args.size) n (lent_of c.args.pages.now)) (sym (reached-is c.args.size c.args.at c.args.bytes.now some))
