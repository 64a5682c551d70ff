use Rattle.std.proofs.Common.{rules, arith, ◌≡◌, ◌≤◌, ◌∙◌, ◌-◌, length, map, Some, None, sym, ap}
use Rattle.std.specs.Prelude.{vec_len}
use Rattle.std.proofs.lemmas.List.{length-map}
use Rattle.wasm_index.specs.Index.{number_of}
use Rattle.type_registry.specs.contracts.kept.Kept as kept
use Rattle.type_registry.specs.Owners.{free_count, emptied}
use Rattle.type_registry.specs.Keeping.{group_in, first_of}
use Rattle.type_registry.proofs.FirstIndices.{set-nothing, remove-none, remove-at, length-removed}
use Rattle.type_registry.proofs.Dropping.{kept-without}
use Rattle.type_registry.proofs.groups.Groups.drop_group.Goals.{In_default, After-group}
use Rattle.type_registry.proofs.groups.Groups.drop_group.Goals as goal

none : (c : In_default) → group_in c.self.inside.kept.items c.args.first ≡ None
none c = let taken : c.take_at.result ≡ None = search rules in sym c.take_at.ensures.taken ∙ taken

dropped : (c : After-group) → group_in c.self.inside.kept.items c.args.first ≡ Some (kept.the_view c.group.inside)
dropped c = sym c.take_at.ensures.taken ∙ c.in-Some.is ∙ ap Some (sym c.group.view_is)

-- as many indices are live as before it was dropped
fewer : (c : After-group) → vec_len c.group.inside.indices ≤ c.self.inside.live
fewer c =
    omega (arith, length-removed c.self.inside.kept.items 0 c.args.first _ (dropped c), c.self.invariant.counted, length-map c.group.inside.indices.items number_of, c.group.inside.indices.ok)

pub invariant_of-self : goal.invariant_of-self
invariant_of-self c = let none = none (goal.at.invariant_of-self c).In_default in rw (c.take_at.ensures.left, set-nothing) c.self.invariant

pub returns-in_default : goal.returns-in_default
returns-in_default c = let none = none (goal.at.returns-in_default c).In_default in grind (arith, set-nothing, remove-none)

pub overflow_cast-self : goal.overflow_cast-self
overflow_cast-self c = omega (arith, fewer (goal.at.overflow_cast-self c).After-group, c.self.ranges)

pub overflow_sub-self : goal.overflow_sub-self
overflow_sub-self c = omega (arith, fewer (goal.at.overflow_sub-self c).After-group)

pub invariant_of-self-2 : goal.invariant_of-self-2
invariant_of-self-2 c =
    let live = c.self.inside.live in
    let is = map number_of c.group.inside.indices.items in
    let at = (goal.at.invariant_of-self-2 c).After-group in
    let owners : c.give_back.new.owners.items ≡ emptied c.self.inside.owners.items is =
    c.give_back.ensures.owners ∙ ap (λ ns. emptied c.self.inside.owners.items (map number_of ns)) c.deref.ensures.value in
    let size : length is ≡ c.len.result = omega (arith, length-map c.group.inside.indices.items number_of, c.group.inside.indices.ok, c.len.ensures) in
    rw (← size, owners, c.take_at.ensures.left) (kept-without (live - length is) (first_of c.remove.new.self) c.self.invariant c.args.first (dropped at)
    c.equality_law.ensures.group c.remove.ensures.updates.0 (omega (arith, fewer at, size)) (c.give_back.ensures.free ∙ ap (map free_count) owners))

pub returns : goal.returns
returns c = let at = dropped (goal.at.returns c).After-group in grind (arith, remove-at)
