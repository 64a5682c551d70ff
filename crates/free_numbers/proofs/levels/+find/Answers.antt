use Rattle.std.proofs.Common.{rules, arith, ◌≡◌, ◌<◌, ◌∷◌, ℕ, length}
use Rattle.free_numbers.proofs.Pairs as pairs
use Rattle.free_numbers.proofs.levels.+find.Goals.{After-find-place}
use Rattle.free_numbers.proofs.levels.+find.Goals as goal

pub find-place-requires : goal.find-place-requires
find-place-requires t c =
    let vs = c.args.levels.now in
    let v = c.in-Some.counts.now in
    let ws = c.in-Some.above.now in
    let e : vs ≡ v ∷ ws = search rules in
    let some : 0 < length ws = search rules in
    let up = pairs.go-up vs ws v e some c.requires.tree c.args.rank c.requires.within c.requires.few in
    (search rules, (up.0, (up.1, up.2)))

whole : (t : ℕ) (c : After-find-place t) → c.args.levels.now ≡ c.in-Some.counts.now ∷ c.in-Some.above.now
whole t c = search rules

some : (t : ℕ) (c : After-find-place t) → 0 < length c.in-Some.above.now
some t c = search rules

found : (t : ℕ) (c : After-find-place t)
    → pairs.IsFound c.args.levels.now c.in-Some.above.now c.in-Some.counts.now (whole t c) (some t c) c.requires.tree
    c.find-place.result.0 c.find-place.result.1 c.args.rank c.find-place.ensures.free c.find-place.ensures.before
found t c = pairs.found c.args.levels.now c.in-Some.above.now c.in-Some.counts.now (whole t c) (some t c) c.requires.tree
    c.find-place.result.0 c.find-place.result.1 c.args.rank c.find-place.ensures.free c.find-place.ensures.before

pub overflow_mul-place : goal.overflow_mul-place
overflow_mul-place t c = omega (arith, (found t (goal.at.overflow_mul-place t c).After-find-place).small c.requires.few)

pub index-left-requires : goal.index-left-requires
index-left-requires t c = omega (arith, (found t (goal.at.index-left-requires t c).After-find-place).within, c.in-Some.counts.now.ok)

pub returns-then-rank-left-clause-before : goal.returns-then-rank-left-clause-before
returns-then-rank-left-clause-before t c = (found t (goal.at.returns-then-rank-left-clause-before t c).After-find-place).first

pub returns-then-rank-left-clause-free : goal.returns-then-rank-left-clause-free
returns-then-rank-left-clause-free t c =
    (found t (goal.at.returns-then-rank-left-clause-free t c).After-find-place).first_free c.index-left.result.now c.index-left.ensures c.if-rank-left.true

pub returns-else-rank-left-clause-before : goal.returns-else-rank-left-clause-before
returns-else-rank-left-clause-before t c =
    (found t (goal.at.returns-else-rank-left-clause-before t c).After-find-place).second c.index-left.result.now c.index-left.ensures c.if-rank-left.false

pub returns-else-rank-left-clause-free : goal.returns-else-rank-left-clause-free
returns-else-rank-left-clause-free t c =
    (found t (goal.at.returns-else-rank-left-clause-free t c).After-find-place).second_free c.index-left.result.now c.index-left.ensures c.if-rank-left.false

pub overflow_mul-result : goal.overflow_mul-result
overflow_mul-result t c = omega (arith, (found t (goal.at.overflow_mul-result t c).After-find-place).small c.requires.few)

pub overflow_mul-result-else-rank-left : goal.overflow_mul-result-else-rank-left
overflow_mul-result-else-rank-left t c = omega (arith, (found t (goal.at.overflow_mul-result-else-rank-left t c).After-find-place).small c.requires.few)

pub overflow_add-result : goal.overflow_add-result
overflow_add-result t c = omega (arith, (found t (goal.at.overflow_add-result t c).After-find-place).small c.requires.few)
