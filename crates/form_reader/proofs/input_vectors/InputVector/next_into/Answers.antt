use Rattle.form_reader.specs.declared.error.ReadError.TheVariants as errors
use Rattle.form_reader.proofs.Listed.{first_taken, none_there, none_read}
use Rattle.form_reader.proofs.input_vectors.InputVector.next_into.Goals as goal

pub returns-then-self-eq0 : goal.returns-then-self-eq0
returns-then-self-eq0 g c =
    let none = none_there g.E.InputEntry.form c.args.self.now.count c.args.self.now.bytes.now c.if-self-eq0.true in
    (none, none)

pub returns-in-Ok : goal.returns-in-Ok
returns-in-Ok g c =
    first_taken g.E.InputEntry.form c.args.self.now.count c.args.self.now.bytes.now c.read_into.new.cursor.rest.now (g.E.InputEntry.view c.read_into.new.entry)
    c.if-self-eq0.false c.in-Ok.ensures

pub returns-in-Err-Malformed : goal.returns-in-Err-Malformed
returns-in-Err-Malformed g c =
    rw c.end.ensures.ended (
      none_read g.E.InputEntry.form c.args.self.now.count c.args.self.now.bytes.now c.in-Err-Malformed.field-0 errors.Malformed c.if-self-eq0.false
          c.in-Err-Malformed.field-0-is tt c.in-Err-Malformed.ensures,
      none_there g.E.InputEntry.form _ _ c.end.ensures.none,
    )

pub returns-in-Err-Unsupported : goal.returns-in-Err-Unsupported
returns-in-Err-Unsupported g c =
    rw c.end-in-Err-Unsupported.ensures.ended (
      none_read g.E.InputEntry.form c.args.self.now.count c.args.self.now.bytes.now c.in-Err-Unsupported.field-0 (errors.Unsupported c.in-Err-Unsupported.field-0-0) c.if-self-eq0.false
          c.in-Err-Unsupported.field-0-is tt c.in-Err-Unsupported.ensures,
      none_there g.E.InputEntry.form _ _ c.end-in-Err-Unsupported.ensures.none,
    )

pub returns-in-Err-TooLarge : goal.returns-in-Err-TooLarge
returns-in-Err-TooLarge g c =
    rw c.end-in-Err-TooLarge.ensures.ended (
      none_read g.E.InputEntry.form c.args.self.now.count c.args.self.now.bytes.now c.in-Err-TooLarge.field-0 errors.TooLarge c.if-self-eq0.false
          c.in-Err-TooLarge.field-0-is tt c.in-Err-TooLarge.ensures,
      none_there g.E.InputEntry.form _ _ c.end-in-Err-TooLarge.ensures.none,
    )
