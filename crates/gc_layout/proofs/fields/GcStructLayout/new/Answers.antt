use Rattle.std.proofs.Common.{◌∙◌, ap}
use Rattle.wasm_types.specs.Collected.{storage_is_object}
use Rattle.gc_layout.specs.Sizes.{field_size}
use Rattle.gc_layout.proofs.Placing.{placed_step, past_offset, past_end, past_size}
use Rattle.gc_layout.proofs.fields.GcStructLayout.new.Goals as goal

pub loop-field-preserved : goal.loop-field-preserved
loop-field-preserved c =
    placed_step _ _ _ _ _ _ _ _ _ _ _ _ _ c.loop-field-test.true c.loop-field.invariant
    (c.byte_size_of_wasm_ty_in_gc_heap-field_size.ensures ∙ ap field_size c.field-item.is)
    c.in-Some.ensures.1 c.in-Some-checked_add.ensures.1 c.max-align.ensures
    (c.is_vmgcref_type_and_not_i31.ensures ∙ ap (λ field. storage_is_object field.element_type) c.field-item.is) c.in_ok-push.ensures.items

pub returns-in_default-clause-overflow : goal.returns-in_default-clause-overflow
returns-in_default-clause-overflow c _ =
    past_offset _ _ c.args.is_exception _ _ _ _ c.loop-field-test.true c.loop-field.invariant.ends
    (c.byte_size_of_wasm_ty_in_gc_heap-field_size.ensures ∙ ap field_size c.field-item.is) c.in_default.ensures

pub returns-in_default-checked_add-clause-overflow : goal.returns-in_default-checked_add-clause-overflow
returns-in_default-checked_add-clause-overflow c _ =
    past_end _ _ c.args.is_exception _ _ _ _ _ c.loop-field-test.true c.loop-field.invariant.ends
    (c.byte_size_of_wasm_ty_in_gc_heap-field_size.ensures ∙ ap field_size c.field-item.is) c.in-Some.ensures.1 c.in_default-checked_add.ensures

pub returns-in_default-checked_next_multiple_of-clause-overflow : goal.returns-in_default-checked_next_multiple_of-clause-overflow
returns-in_default-checked_next_multiple_of-clause-overflow c _ =
    past_size _ _ c.args.is_exception _ _ _ _ c.loop-field-test.false c.loop-field.invariant c.in_default-checked_next_multiple_of.ensures
