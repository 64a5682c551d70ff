use Rattle.std.proofs.Common.{arith, ◌≡◌, ◌∙◌, ℕ, length, cond, Some, ap}
use Rattle.type_registry.specs.Registry.{Group}
use Rattle.type_registry.specs.Changes.{find_group}
use Rattle.type_registry.specs.Keeping.{Shared, shared_content, first_of}
use Rattle.type_registry.proofs.Keeping.{Eq, ok-is}
use Rattle.type_registry.proofs.FreshGroups.{fresh-same, fresh-pushed}
use Rattle.type_registry.proofs.fresh.FreshGroups.push.Goals as goal

pub invariant_of-self-in_err-push : goal.invariant_of-self-in_err-push
invariant_of-self-in_err-push c = rw c.in_err-push.ensures.items (fresh-same c.self.invariant (first_of c.reserve.new.self) c.reserve.ensures.entries.2)

pub invariant_of-self-2 : goal.invariant_of-self-2
invariant_of-self-2 c =
    let e = c.args.group in
    let kept = fresh-same c.self.invariant (first_of c.reserve.new.self) c.reserve.ensures.entries.2 in
    let done = ok-is c.insert.result (c.insert.ensures.succeeds (omega (arith, c.in_ok-reserve.ensures.ok))) c.insert.ensures.updates in
    let place : c.len-place.result ≡ length c.self.inside.groups.items = omega (arith, c.len-place.ensures, c.self.inside.groups.ok) in
    let learns : (q : Shared) → first_of c.insert.new.self q ≡ cond (Eq e.1.canonical (shared_content q)) (Some (length c.self.inside.groups.items)) (first_of c.reserve.new.self q) =
    λ q. done.0 q ∙ ap (λ x. cond (Eq x (shared_content q)) (Some c.len-place.result) (first_of c.reserve.new.self q)) c.requires.name
    ∙ ap (λ n. cond (Eq e.1.canonical (shared_content q)) (Some n) (first_of c.reserve.new.self q)) place in
    let size : length c.group.inside.kept.indices ≡ length e.1.indices = ap (λ (f : ℕ × Group). length f.1.indices) c.group.view_is in
    rw c.in_ok-push.ensures.items (fresh-pushed kept c.equality_law.ensures.group (first_of c.insert.new.self) e
    (ap (find_group e.1.canonical) c.self.view_is ∙ c.requires.unknown) learns (omega (arith, size, c.len-members.ensures)))
