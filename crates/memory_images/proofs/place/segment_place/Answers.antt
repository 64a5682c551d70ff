use Rattle.std.proofs.Common.{Some, sym, ◌∙◌, ap, rules}
use Rattle.std.specs.Option.{option_map}
use Rattle.std.proofs.lemmas.Option.{slice_get-get_or}
use Rattle.wasm_convert.specs.Constants.{plain_value_of}
use Rattle.memory_images.specs.Views.{active_segment_of}
use Rattle.memory_images.proofs.Placing.{placed, past_end}
use Rattle.memory_images.proofs.place.segment_place.Goals as goal

pub returns-then-end-size-clause-some : goal.returns-then-end-size-clause-some
returns-then-end-size-clause-some c =
    let found = c.in_ok-memory.ensures.lookup in
    placed c.args.imported c.args.defined.now (active_segment_of c.args.segment.now) c.in_ok-number.number c.in_ok-memory.field-0.now (plain_value_of c.in_ok-const_eval.field-0) c.in_ok-place.place
    (search rules) (slice_get-get_or c.args.defined.now c.in_ok-number.number c.in_ok-memory.field-0.now found.3.0 ∙ ap Some (sym found.1)) (sym c.const_eval.ensures ∙ ap (option_map plain_value_of) c.in_ok-const_eval.was)
    (search rules) (search rules) (search rules) (search rules)

pub returns-else-end-size-clause-none : goal.returns-else-end-size-clause-none
returns-else-end-size-clause-none c =
    let found = c.in_ok-memory.ensures.lookup in
    past_end c.args.imported c.args.defined.now (active_segment_of c.args.segment.now) c.in_ok-number.number c.in_ok-memory.field-0.now (plain_value_of c.in_ok-const_eval.field-0) c.in_ok-place.place
    (search rules) (slice_get-get_or c.args.defined.now c.in_ok-number.number c.in_ok-memory.field-0.now found.3.0 ∙ ap Some (sym found.1)) (sym c.const_eval.ensures ∙ ap (option_map plain_value_of) c.in_ok-const_eval.was)
    (search rules) (search rules)
