use Rattle.std.proofs.lemmas.Grind.{common_steps}
use Rattle.std.proofs.Common.{◌∙◌, ◌+◌, ◌-◌, sym, ap, arith}
use Rattle.std.proofs.lemmas.List.{length-map}
use Rattle.wasm_index.specs.Index.{index_of}
use Rattle.module_types.specs.Views.{span_of}
use Rattle.module_types.proofs.Places.{some, before, stands, held-within, held-index, next-within, next-index}
use Rattle.module_types.proofs.group_converter.GroupConverter.index_of.Goals as goal

pub unreachable-requires : goal.unreachable-requires
unreachable-requires c =
    grind (arith, common_steps, some c.requires c.rec_group_id_of-group.ensures.number c.rec_group_id_of-group.ensures.known c.rec_group_elements.ensures)

pub overflow_sub-place : goal.overflow_sub-place
overflow_sub-place c =
    before c.requires c.rec_group_id_of-group.ensures.number c.rec_group_id_of-group.ensures.known c.rec_group_elements.ensures c.in-Some.ensures.steps

pub ends_of-start-requires : goal.ends_of-start-requires
ends_of-start-requires c =
    let s = stands c.requires c.rec_group_id_of-group.ensures.number c.rec_group_id_of-group.ensures.known c.rec_group_elements.ensures (sym c.in-Some-get.ensures) in
    omega (arith, s.within, length-map c.args.self.now.list.now.groups span_of)

pub overflow_add-start : goal.overflow_add-start
overflow_add-start c =
    let w = held-within c.requires c.rec_group_id_of-group.ensures.number c.rec_group_id_of-group.ensures.known c.rec_group_elements.ensures
    c.in-Some.ensures.steps (sym c.in-Some-get.ensures) c.ends_of-start.ensures in
    omega (arith, w, c.ends_of-start.type_inv)

pub from_u32-requires : goal.from_u32-requires
from_u32-requires c =
    let w = held-within c.requires c.rec_group_id_of-group.ensures.number c.rec_group_id_of-group.ensures.known c.rec_group_elements.ensures
    c.in-Some.ensures.steps (sym c.in-Some-get.ensures) c.ends_of-start.ensures in
    omega (arith, w, c.ends_of-start.type_inv)

pub returns-in-Some-get : goal.returns-in-Some-get
returns-in-Some-get c =
    c.from_u32.ensures ∙ ap index_of (sym (held-index c.requires c.rec_group_id_of-group.ensures.number c.rec_group_id_of-group.ensures.known
    c.rec_group_elements.ensures c.in-Some.ensures.steps (sym c.in-Some-get.ensures) c.ends_of-start.ensures))

pub overflow_add-as_u32 : goal.overflow_add-as_u32
overflow_add-as_u32 c =
    let w = next-within c.requires c.rec_group_id_of-group.ensures.number c.rec_group_id_of-group.ensures.known c.rec_group_elements.ensures
    c.in-Some.ensures.steps (sym c.in-None.ensures) in
    omega (arith, w)

pub from_u32-requires-in-None : goal.from_u32-requires-in-None
from_u32-requires-in-None c =
    let w = next-within c.requires c.rec_group_id_of-group.ensures.number c.rec_group_id_of-group.ensures.known c.rec_group_elements.ensures
    c.in-Some.ensures.steps (sym c.in-None.ensures) in
    omega (arith, w)

pub returns-in-None : goal.returns-in-None
returns-in-None c =
    c.from_u32-in-None.ensures
    ∙ ap index_of (ap (λ n. n + (c.args.id.0 - c.in-Some.first.0)) c.as_u32.ensures
    ∙ sym (next-index c.requires c.rec_group_id_of-group.ensures.number c.rec_group_id_of-group.ensures.known c.rec_group_elements.ensures
    c.in-Some.ensures.steps (sym c.in-None.ensures)))
