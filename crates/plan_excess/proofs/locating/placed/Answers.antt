use Rattle.std.proofs.Common.{sym, ◌∙◌}
use Rattle.plan_excess.proofs.Placing.{placed-none, placed-some, never-missing}
use Rattle.plan_excess.proofs.locating.placed.Goals as goal

pub returns-in_default-clause-place : goal.returns-in_default-clause-place
returns-in_default-clause-place c = λ m read. placed-none c.args.bytes.now m _ (sym c.entry.ensures ∙ c.in_default.is)

pub returns-clause-place : goal.returns-clause-place
returns-clause-place c = λ m read.
    placed-some c.args.bytes.now m _ c.in-Some.entry c.in-Some-2.place (sym c.entry.ensures ∙ c.in-Some.is) read
    (rw c.in-Some-2.is at c.in_ok-place.ensures.found)

pub unreachable-requires : goal.unreachable-requires
unreachable-requires c =
    never-missing c.args.bytes.now _ c.in-Some.entry (sym c.entry.ensures ∙ c.in-Some.is) c.requires (c.in_ok-place.ensures.none c.in-None.is)
