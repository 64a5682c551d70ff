use Rattle.std.proofs.Common.{arith, ◌≡◌, ◌∙◌, ap}
use Rattle.wasm_index.specs.Index.{number_of}
use Rattle.type_registry.specs.Owners.{owner_at}
use Rattle.type_registry.proofs.UsedTypes.{no-type, some-type, no-group}
use Rattle.type_registry.proofs.groups.Groups.get.Goals.{After-owner_of}
use Rattle.type_registry.proofs.groups.Groups.get.Goals as goal

is : (c : After-owner_of) → c.owner_of.result ≡ owner_at c.self.inside.owners.items (number_of c.args.index)
is c = c.owner_of.ensures ∙ ap (λ l. owner_at l c.index.result) c.deref.ensures.value ∙ ap (owner_at c.self.inside.owners.items) c.index.ensures.number

pub returns-in_err-owner-clause-found : goal.returns-in_err-owner-clause-found
returns-in_err-owner-clause-found c =
    let is = is (goal.at.returns-in_err-owner-clause-found c).After-owner_of in
    grind (arith, no-type c.self.invariant (ap (λ s. s.groups) c.self.view_is) (number_of c.args.index))

pub returns-in_err-kept-clause-found : goal.returns-in_err-kept-clause-found
returns-in_err-kept-clause-found c =
    let is = is (goal.at.returns-in_err-kept-clause-found c).After-owner_of in
    grind (arith, no-group c.self.invariant (ap (λ s. s.groups) c.self.view_is) (number_of c.args.index))

pub returns-clause-found : goal.returns-clause-found
returns-clause-found c =
    let is = is (goal.at.returns-clause-found c).After-owner_of in
    grind (arith, some-type c.self.invariant (ap (λ s. s.groups) c.self.view_is) (number_of c.args.index))
