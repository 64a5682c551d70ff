use Rattle.std.proofs.Common.{rules, ◌≡◌, ◌∙◌, Some, None, sym, ap}
use Rattle.std.specs.Option.{option_copied}
use Rattle.type_registry.specs.Keeping.{group_in}
use Rattle.type_registry.specs.Changes.{find_group}
use Rattle.type_registry.proofs.NewGroups.{found-known, not-found}
use Rattle.type_registry.proofs.groups.Groups.find.Goals as goal

pub returns-in_err-first : goal.returns-in_err-first
returns-in_err-first c =
    let none : option_copied c.get.result ≡ None = search rules in
    let shown : option_copied c.from_residual.result ≡ None = search rules in
    shown ∙ sym (not-found c.self.invariant c.equality_law.ensures.group c.args.canonical.now (sym c.get.ensures.value ∙ none))
    ∙ ap (find_group c.args.canonical.now.value) (ap (λ s. s.groups) c.self.view_is)

pub returns : goal.returns
returns c =
    let f = c.in_ok-first.field-0.now in
    let some : option_copied c.get.result ≡ Some f = search rules in
    c.group_at.ensures ∙ ap (λ l. group_in l f) c.deref.ensures.value
    ∙ sym (found-known c.self.invariant c.equality_law.ensures.group c.args.canonical.now f (sym c.get.ensures.value ∙ some))
    ∙ ap (find_group c.args.canonical.now.value) (ap (λ s. s.groups) c.self.view_is)
