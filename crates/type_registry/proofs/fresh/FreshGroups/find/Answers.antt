use Rattle.std.proofs.Common.{rules, ◌≡◌, ◌∙◌, ℕ, Some, None, slice_get, sym, ap}
use Rattle.std.specs.Option.{option_copied, option_map}
use Rattle.type_registry.specs.Registry.{Group, Groups}
use Rattle.type_registry.specs.Changes.{find_group}
use Rattle.type_registry.proofs.FreshGroups.{found-fresh, not-fresh}
use Rattle.type_registry.proofs.fresh.FreshGroups.find.Goals as goal

pub returns-in_err-place : goal.returns-in_err-place
returns-in_err-place c =
    let none : option_copied c.get.result ≡ None = search rules in
    let shown : option_copied c.from_residual.result ≡ None = search rules in
    shown ∙ sym (not-fresh c.self.invariant c.equality_law.ensures.group c.args.canonical.now (sym c.get.ensures.value ∙ none))
    ∙ ap (find_group c.args.canonical.now.value) c.self.view_is

pub returns : goal.returns
returns c =
    let p = c.in_ok-place.field-0.now in
    let some : option_copied c.get.result ≡ Some p = search rules in
    c.group_at.ensures ∙ ap (λ (es : Groups). option_map (λ (e : ℕ × Group). e.1) (slice_get es p)) c.deref.ensures.value
    ∙ sym (found-fresh c.self.invariant c.equality_law.ensures.group c.args.canonical.now p (sym c.get.ensures.value ∙ some)) ∙ ap (find_group c.args.canonical.now.value) c.self.view_is
