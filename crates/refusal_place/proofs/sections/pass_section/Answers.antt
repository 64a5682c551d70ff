use Rattle.std.proofs.Common.{sym, ◌∙◌, arith}
use Rattle.form_reader.specs.Input.{custom_of, input_section_of}
use Rattle.form_reader.proofs.CustomRuns.{custom_shortens, read_alike}
use Rattle.refusal_place.proofs.Passing.{passed, custom_passed, refused}
use Rattle.refusal_place.proofs.sections.pass_section.Goals as goal

pub overflow_sub-result : goal.overflow_sub-result
overflow_sub-result c =
    let short = custom_shortens c.args.rest.now c.custom.new.self.rest.now (custom_of c.in-Ok.field-0) (sym c.is_at_custom.ensures ∙ c.if-is_at_custom.true) c.in-Ok.ensures in
    omega (arith, short)

pub returns-in-Ok : goal.returns-in-Ok
returns-in-Ok c = custom_passed c.args.start c.args.next.now c.args.rest.now c.custom.new.self.rest.now (custom_of c.in-Ok.field-0)
    (sym c.is_at_custom.ensures ∙ c.if-is_at_custom.true) c.in-Ok.ensures

pub returns-in-Err : goal.returns-in-Err
returns-in-Err c =
    let same = read_alike c.args.start c.args.next.now c.args.rest.now (sym c.is_at_custom.ensures ∙ c.if-is_at_custom.true) in
    refused c.args.start c.args.next.now c.args.rest.now c.in-Err.error c.not_read.result (rw same c.in-Err.ensures) c.not_read.ensures

pub returns-in-Ok-section : goal.returns-in-Ok-section
returns-in-Ok-section c =
    let p = input_section_of c.in-Ok-section.section in
    let all = passed c.args.start c.args.next.now c.args.rest.now c.section.new.self.rest.now p c.in-Ok-section.ensures.reads in
    rw c.next_order.ensures all
