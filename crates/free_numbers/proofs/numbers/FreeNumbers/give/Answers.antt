use Rattle.std.proofs.lemmas.Grind.{common_steps}
use Rattle.std.proofs.Common.{arith, ◌≡◌, ◌∙◌, ◌<◌, ◌+◌, ◌-◌, List, ℕ, length, get_or, set, sym, ap}
use Rattle.std.proofs.lemmas.List.{set-get_or}
use Rattle.free_numbers.specs.Levels.{lists_of, counts_of, CanChange}
use Rattle.free_numbers.proofs.Pairs.{first-can, can-give, value, new-counts, stays, count-few}
use Rattle.free_numbers.proofs.numbers.FreeNumbers.give.Goals.{Then-index-eq0}
use Rattle.free_numbers.proofs.numbers.FreeNumbers.give.Goals as goal

-- the count of the number
read : (c : Then-index-eq0) → (c.args.number < length (counts_of (lists_of c.self.inside.levels.items)))
    × (c.index-2.result.now ≡ get_or (counts_of (lists_of c.self.inside.levels.items)) c.args.number 0)
read c = value c.self.inside.levels.items c.index.result.now c.args.number c.index-2.result.now c.args.self.now c.self.view_is c.requires c.index.ensures c.index-2.ensures

can : (c : Then-index-eq0) → CanChange 0 1 c.args.number (counts_of (lists_of c.self.inside.levels.items))
can c = grind (arith, common_steps, read, can-give)

pub change-requires-clause-can : goal.change-requires-clause-can
change-requires-clause-can c = first-can 0 1 c.args.number (lists_of c.self.inside.levels.items) (can (goal.at.change-requires-clause-can c).Then-index-eq0)

gives : (c : Then-index-eq0) → get_or (counts_of (lists_of c.self.inside.levels.items)) c.args.number 0 - 0 + 1 ≡ 1
gives c = omega (arith, (read c).1, c.if-index-eq0.true)

pub overflow_add-self : goal.overflow_add-self
overflow_add-self c = omega (arith, c.self.invariant.3, (can (goal.at.overflow_add-self c).Then-index-eq0).2)

pub invariant_of-self : goal.invariant_of-self
invariant_of-self c =
    let then = (goal.at.invariant_of-self c).Then-index-eq0 in
    let s = c.self.inside in
    let inv = c.self.invariant in
    stays 0 1 (lists_of s.levels.items) (lists_of c.change.new.levels.items) c.args.number 1 s.free (s.free + 1) c.change.ensures inv.0 inv.1 inv.2 inv.3
    (can then) (omega arith) (gives then) (omega arith)

pub returns-then-index-eq0 : goal.returns-then-index-eq0
returns-then-index-eq0 c = grind (arith, common_steps, can, gives, new-counts)

pub returns-else-index-eq0 : goal.returns-else-index-eq0
returns-else-index-eq0 c =
    let now = c.args.self.now in
    let ls = lists_of c.self.inside.levels.items in
    let n = c.args.number in
    let read = value c.self.inside.levels.items c.index.result.now n c.index-2.result.now now c.self.view_is c.requires c.index.ensures c.index-2.ensures in
    let is : get_or now n 0 ≡ 1 =
    sym (ap (λ (l : List ℕ). get_or l n 0) c.self.view_is) ∙ omega (arith, read.1, count-few (counts_of ls) n c.self.invariant.1, c.if-index-eq0.false) in
    sym (ap (set now n) (sym is) ∙ set-get_or now n 0)
