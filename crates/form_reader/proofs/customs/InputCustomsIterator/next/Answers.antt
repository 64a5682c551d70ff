use Rattle.std.proofs.Common.{ap, arith, length, refl}
use Rattle.form_reader.specs.Input.{custom_of}
use Rattle.form_reader.specs.SectionRows.{custom_section}
use Rattle.form_reader.proofs.Listed.{first_taken, none_there, none_taken}
use Rattle.form_reader.proofs.Taken.{was_read, was_not_read}
use Rattle.form_reader.proofs.customs.InputCustomsIterator.next.Goals as goal

pub returns-then-self-eq0-clause-steps : goal.returns-then-self-eq0-clause-steps
returns-then-self-eq0-clause-steps c =
    let none = none_there custom_section.read c.args.self.now.count c.args.self.now.bytes.now c.if-self-eq0.true in
    (none, none)

pub returns-in-Some-clause-steps : goal.returns-in-Some-clause-steps
returns-in-Some-clause-steps c =
    first_taken custom_section.read c.args.self.now.count c.args.self.now.bytes.now c.in-Some.rest.now (custom_of c.in-Some.custom) c.if-self-eq0.false
    (was_read _ _ c.in-Some.ensures)

pub returns-in-Some-clause-goes : goal.returns-in-Some-clause-goes
returns-in-Some-clause-goes c =
    let steps = first_taken custom_section.read c.args.self.now.count c.args.self.now.bytes.now c.in-Some.rest.now (custom_of c.in-Some.custom) c.if-self-eq0.false
    (was_read _ _ c.in-Some.ensures) in
    record { on = λ finite. (tt, tt, omega (arith, ap length steps)); keeps = tt; rests = λ finite. tt }

pub returns-in-None-clause-steps : goal.returns-in-None-clause-steps
returns-in-None-clause-steps c =
    let fault = was_not_read _ c.in-None.ensures in (
      none_taken custom_section.read c.args.self.now.count c.args.self.now.bytes.now fault.0 c.if-self-eq0.false fault.1,
      none_there custom_section.read 0 c.args.self.now.bytes.now refl,
    )
