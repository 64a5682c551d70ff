use Rattle.std.proofs.Common.{rules, arith, ◌≡◌, ◌∙◌, nat_eq, Some, None, sym, ap, length-set}
use Rattle.std.specs.Map.{lookup}
use Rattle.std.proofs.lemmas.List.{set-set}
use Rattle.type_registry.specs.contracts.kept.Kept as kept
use Rattle.type_registry.specs.Registry.{Groups}
use Rattle.type_registry.specs.Changes.{with_count}
use Rattle.type_registry.specs.Keeping.{group_in}
use Rattle.type_registry.proofs.FirstIndices.{set-nothing, count-none, count-at, group-within}
use Rattle.type_registry.proofs.Dropping.{kept-counted}
use Rattle.type_registry.proofs.groups.Groups.set_count.Goals.{In_default, After-group}
use Rattle.type_registry.proofs.groups.Groups.set_count.Goals as goal

none : (c : In_default) → group_in c.self.inside.kept.items c.args.first ≡ None
none c = let taken : c.take_at.result ≡ None = search rules in sym c.take_at.ensures.taken ∙ taken

at : (c : After-group) → group_in c.self.inside.kept.items c.args.first ≡ Some (kept.the_view c.group.inside)
at c = sym c.take_at.ensures.taken ∙ c.in-Some.is ∙ ap Some (sym c.group.view_is)

pub invariant_of-self : goal.invariant_of-self
invariant_of-self c = let none = none (goal.at.invariant_of-self c).In_default in rw (c.take_at.ensures.left, set-nothing) c.self.invariant

pub returns-in_default : goal.returns-in_default
returns-in_default c = let none = none (goal.at.returns-in_default c).In_default in grind (arith, set-nothing, count-none)

pub index_mut-requires : goal.index_mut-requires
index_mut-requires c = let at = at (goal.at.index_mut-requires c).After-group in grind (arith, group-within, length-set)

pub invariant_of-self-2 : goal.invariant_of-self-2
invariant_of-self-2 c = rw (c.take_at.ensures.left, set-set) (kept-counted c.self.invariant c.args.first c.args.count (at (goal.at.invariant_of-self-2 c).After-group))

pub returns : goal.returns
returns c =
    let f = c.args.first in
    let n = c.args.count in
    rw (c.take_at.ensures.left, set-set) (count-at c.self.inside.kept.items f n (kept.the_view c.group.inside) (at (goal.at.returns c).After-group)
    ∙ ap (λ (es : Groups). with_count es f n (lookup (nat_eq f) es)) (ap (λ s. s.groups) c.self.view_is))
