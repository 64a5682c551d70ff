use Rattle.std.proofs.Common.{refl}
use Rattle.std.proofs.lemmas.Result.{err_from_is_err_and}
use Rattle.wasm_spec.specs.Module.{groups_of_section}
use Rattle.form_reader.specs.Input.{input_section_of}
use Rattle.form_reader.proofs.CustomRuns.{none_listed}
use Rattle.form_reader.proofs.HeldGroups.{takes_none}
use Rattle.form_reader.proofs.SectionList.{one_passes, section_shortens, section_fails}
use Rattle.form_reader.proofs.cursor.Cursor.part.Goals as goal

pub returns-then-is_at_custom-clause-reads : goal.returns-then-is_at_custom-clause-reads
returns-then-is_at_custom-clause-reads g c = c.in_ok-customs.ensures c.args.place c.args.next.now

pub returns-then-is_at_custom-clause-takes : goal.returns-then-is_at_custom-clause-takes
returns-then-is_at_custom-clause-takes g c =
    rw (none_listed groups_of_section (λ name bytes. refl) c.in_ok-customs.field-0) (takes_none g.T.GroupSink.holds c.args.sink.now)

pub returns-in_err-section-clause-reads : goal.returns-in_err-section-clause-reads
returns-in_err-section-clause-reads g c =
    let p = err_from_is_err_and c.from_residual-in_err-section.result c.from_residual-in_err-section.ensures.1 in
    rw (p.1, p.2) (section_fails c.in_err-section.field-0.0 c.args.place c.args.next.now c.args.self.now.rest.now c.in_err-section.ensures.reads)

pub returns-clause-reads : goal.returns-clause-reads
returns-clause-reads g c =
    let p = input_section_of c.in_ok-section.section in
    let rest = c.section.new.self.rest.now in (
      rw c.next_order.ensures (one_passes c.args.place c.args.next.now c.args.self.now.rest.now p rest c.in_ok-section.ensures.reads),
      section_shortens c.args.place c.args.next.now c.args.self.now.rest.now p rest c.in_ok-section.ensures.reads,
    )
