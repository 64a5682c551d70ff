use Rattle.std.proofs.Common.{rules, arith, ◌≡◌, ◌≤◌, ◌+◌, ◌-◌, ℕ, length, ap}
use Rattle.type_registry.specs.Registry.{indices_of}
use Rattle.type_registry.specs.FreeIndices.{free_below}
use Rattle.type_registry.proofs.FreeIndices.{rank-high}
use Rattle.type_registry.proofs.FreeOwners.{owners-long, nth-free, nth-rank, past-free, past-rank}
use Rattle.type_registry.proofs.groups.Groups.free_at.Goals.{In-Some, After-len}
use Rattle.type_registry.proofs.groups.Groups.free_at.Goals as goal

rank : (c : In-Some) → free_below (indices_of c.args.self.now.groups) c.in-Some.number ≡ c.args.rank
rank c = nth-rank c.self.invariant (ap (λ s. s.groups) c.self.view_is) c.in-Some.number c.args.rank c.in-Some.ensures.free c.in-Some.ensures.rank

-- where no index within the capacity is so, the one after the capacity is
abbrev past : After-len → ℕ
past c = c.len.result + (c.args.rank - c.len_free.result)

long : (c : After-len) → past c ≡ length c.self.inside.free + (c.args.rank - c.len_free.result)
long c = omega (arith, owners-long c.self.invariant, c.len.ensures, c.self.inside.owners.ok)

further : (c : After-len) → free_below (indices_of c.args.self.now.groups) (past c) ≡ c.args.rank
further c =
    let low : c.len_free.result ≤ c.args.rank = search rules in
    omega (arith, past-rank c.self.invariant (ap (λ s. s.groups) c.self.view_is) (past c) (c.args.rank - c.len_free.result) (long c), c.len_free.ensures, low)

high : (c : After-len) → past c ≤ length (indices_of c.args.self.now.groups) + c.args.rank
high c = omega (arith, further c, rank-high (indices_of c.args.self.now.groups) (past c))

pub from_u32-requires : goal.from_u32-requires
from_u32-requires c = omega (arith, rank (goal.at.from_u32-requires c).In-Some, rank-high (indices_of c.args.self.now.groups) c.in-Some.number, c.requires)

pub returns-in-Some-clause-free : goal.returns-in-Some-clause-free
returns-in-Some-clause-free c = grind (arith, nth-free c.self.invariant (ap (λ s. s.groups) c.self.view_is) c.in-Some.number c.in-Some.ensures.free)

pub returns-in-Some-clause-rank : goal.returns-in-Some-clause-rank
returns-in-Some-clause-rank c = grind (arith, rank (goal.at.returns-in-Some-clause-rank c).In-Some)

pub overflow_add-len : goal.overflow_add-len
overflow_add-len c = omega (arith, high (goal.at.overflow_add-len c).After-len, c.requires)

pub from_u32-requires-2 : goal.from_u32-requires-2
from_u32-requires-2 c = omega (arith, high (goal.at.from_u32-requires-2 c).After-len, c.requires)

pub returns-clause-free : goal.returns-clause-free
returns-clause-free c =
    let at = (goal.at.returns-clause-free c).After-len in
    grind (arith, past-free c.self.invariant (ap (λ s. s.groups) c.self.view_is) (past at) (omega (arith, long at)))

pub returns-clause-rank : goal.returns-clause-rank
returns-clause-rank c = grind (arith, further (goal.at.returns-clause-rank c).After-len)
