use Rattle.std.proofs.Common.{arith, ◌≡◌, ◌≤◌, ◌-◌, ◌++◌, length, map, None, ap}
use Rattle.std.specs.Prelude.{replicate, vec_len}
use Rattle.std.proofs.lemmas.List.{take_all}
use Rattle.type_registry.specs.Owners.{free_count}
use Rattle.type_registry.proofs.Roomier.{kept-more, kept-roomier}
use Rattle.type_registry.proofs.groups.Groups.lengthen.Goals as goal

pub invariant_of-self-2 : goal.invariant_of-self-2
invariant_of-self-2 c =
    let s = c.self.inside in
    let gs = s.kept.items in
    let os = s.owners.items in
    let room = c.args.room in
    let n = room - length gs in
    let size : length gs ≤ room = omega (arith, c.requires.longer, ap (λ s. s.room) c.self.view_is) in
    let long : vec_len s.owners ≡ length gs = omega (arith, s.owners.ok, c.self.invariant.owners) in
    let free : c.in_ok-free.free ≡ map free_count os ++ replicate n 1 = rw (c.deref.ensures.value, c.self.invariant.owners) at c.in_ok-free.ensures in
    let kept : c.fill.new.kept.items ≡ gs ++ replicate n None = rw c.reserve.ensures.items at c.fill.ensures in
    let owners : c.resize.new.self.items ≡ os ++ replicate n None =
    rw (take_all room os (omega (arith, size, c.self.invariant.owners)), long) at c.in_ok-resize.ensures.items in
    rw (kept, owners, free) (kept-roomier c.self.invariant n (omega (arith, size, c.requires.few)))

pub returns-clause-groups : goal.returns-clause-groups
returns-clause-groups c = grind (arith, kept-more)
