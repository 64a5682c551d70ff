use Rattle.std.proofs.Common.{rules, arith, ◌≡◌, ◌∙◌, Some, None, sym, ap}
use Rattle.type_registry.specs.contracts.kept.Held as held
use Rattle.type_registry.specs.contracts.registry.TypeRegistry as seen
use Rattle.type_registry.specs.Registry.{Module, RegistryState, registry_of}
use Rattle.type_registry.specs.Changes.{released_by}
use Rattle.type_registry.specs.Balanced.{IsBalanced}
use Rattle.type_registry.proofs.Balance.{left-balanced, left-index, left-stands, live-held}
use Rattle.type_registry.proofs.Counting.{counted-left}
use Rattle.type_registry.proofs.Leaving.{left_short}
use Rattle.type_registry.proofs.registry.TypeRegistry.release.Goals as goal

-- the registry afterwards
abbrev after : goal.After-drop-held-inside-2 → RegistryState
after c = record (seen.the_view c.self.inside) { modules = c.remove.new.self.entries; groups = c.leave_all.new.groups.groups }

abbrev gone : goal.After-drop-held-inside-2 → Module
gone c = held.the_view c.held.inside

was-held : (c : goal.After-drop-held-inside-2) → (registry_of (seen.the_view c.self.inside)).held c.args.key.0 ≡ Some (gone c)
was-held c = sym c.remove.ensures.value ∙ c.in-Some.is ∙ ap Some (sym c.held.view_is)

now-is : (c : goal.After-drop-held-inside-2) → registry_of (after c) ≡ released_by (registry_of (seen.the_view c.self.inside)) c.args.key.0 (Some (gone c))
now-is c = grind arith

balanced : (c : goal.After-drop-held-inside-2) → IsBalanced (registry_of (after c))
balanced c = rw (now-is c) (left-balanced (registry_of (seen.the_view c.self.inside)) c.self.invariant.2 c.args.key.0 (gone c) (was-held c))

pub invariant_of-self-2 : goal.invariant_of-self-2
invariant_of-self-2 c = (grind (arith, left_short), c.self.invariant.1, balanced c, grind (arith, counted-left))

pub returns-clause-others : goal.returns-clause-others
returns-clause-others c = λ k l differ st.
    let st' = rw (← c.self.view_is) at st in
    rw (now-is c) (left-stands (registry_of (seen.the_view c.self.inside)) c.self.invariant.2 c.args.key.0 (gone c) (was-held c) k l differ st')

pub returns-clause-indices : goal.returns-clause-indices
returns-clause-indices c = grind (arith, now-is, left-index)

pub returns-clause-live : goal.returns-clause-live
returns-clause-live c = live-held (registry_of (after c)) (balanced c)

-- where no module is held under the key, nothing has changed
pub returns-in_default-clause-live : goal.returns-in_default-clause-live
returns-in_default-clause-live c =
    let none : c.remove.result ≡ None = search rules in
    let same : c.remove.new.self.entries ≡ c.self.inside.modules.entries = rw none at c.remove.ensures.unchanged in
    rw same (live-held (registry_of (seen.the_view c.self.inside)) c.self.invariant.2)
