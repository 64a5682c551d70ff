use Rattle.std.proofs.Common.{arith, ◌≡◌, ◌+◌, length, Some, None, refl, ap}
use Rattle.std.specs.Map.{update, lookup}
use Rattle.std.proofs.lemmas.Map.Made.{update_all_none}
use Rattle.type_registry.specs.Keeping.{first_of}
use Rattle.type_registry.proofs.Keeping.{ok-is}
use Rattle.type_registry.proofs.SameNames.{same, same-laws}
use Rattle.type_registry.proofs.known.moved.Goals as goal

pub loop-name-init : goal.loop-name-init
loop-name-init c =
    let all = c.into_iter-name-iterator.ensures.into_iter_gives in
    let none : first_of c.args.into ≡ (λ q. None) = (λ i. λ q. lookup (same q) (c.requires.empty i)) in
    record {
      rest = λ q. rw (all.0, none) (update_all_none (same-laws c.equality_law.ensures.group) same (λ x y. refl) c.args.old.entries q all.4);
      room = omega (arith, ap length all.0, c.requires.room);
      spare = omega (arith, ap length all.0);
    }

pub loop-name-preserved : goal.loop-name-preserved
loop-name-preserved c =
    let long : length c.loop-name.name-iterator ≡ length c.next.new.self + 1 = omega (arith, ap length c.in-Some.ensures.steps) in
    let done = ok-is c.insert.result (c.insert.ensures.succeeds (omega arith)) c.insert.ensures.updates in
    let more : first_of c.insert.new.self ≡ update same (first_of c.loop-name.into) c.in-Some.name (Some c.in-Some.first) = (λ i. λ q. done.0 q i) in
    record {
      rest = λ q. rw more (rw c.in-Some.ensures.steps at (c.loop-name.invariant.rest q));
      room = omega (arith, c.insert.ensures.spare);
      spare = omega (arith, c.insert.ensures.spare);
    }
