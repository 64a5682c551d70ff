use Rattle.std.proofs.Common.{◌∙◌, true, false, Some, sym, ap}
use Rattle.module_types.specs.Builder.{BuilderState}
use Rattle.module_types.specs.TypeParts.{is_resource_drop}
use Rattle.module_types.proofs.Elements.{first-step}
use Rattle.module_types.proofs.builder.ModuleTypesBuilder.find_resource_drop_signature.Goals as goal

pub returns-then-is_resource_drop : goal.returns-then-is_resource_drop
returns-then-is_resource_drop c =
    let read = rw (ap (λ (s : BuilderState). s.list.types) c.self.view_is, c.new-index.ensures) at c.index.ensures in
    ap Some c.new-index.ensures
    ∙ sym (first-step is_resource_drop _ c.loop-i.i _ read true (sym c.is_resource_drop.ensures ∙ c.if-is_resource_drop.true)) ∙ c.loop-i.invariant

pub loop-i-preserved : goal.loop-i-preserved
loop-i-preserved c =
    let read = rw (ap (λ (s : BuilderState). s.list.types) c.self.view_is, c.new-index.ensures) at c.index.ensures in
    sym (first-step is_resource_drop _ c.loop-i.i _ read false (sym c.is_resource_drop.ensures ∙ c.if-is_resource_drop.false)) ∙ c.loop-i.invariant
