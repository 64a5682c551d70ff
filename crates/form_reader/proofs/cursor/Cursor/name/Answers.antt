use Rattle.form_reader.proofs.NameLaws.{name_taken, name_refused}
use Rattle.form_reader.proofs.cursor.Cursor.name.Goals as goal

pub returns-in-Ok : goal.returns-in-Ok
returns-in-Ok c = rw c.in-Ok.ensures.cases.0
    (name_taken c.args.self.now.rest.now c.in_ok-bytes.bytes.now c.counted_bytes.new.self.rest.now c.in_ok-bytes.ensures c.in-Ok.ensures.cases.1)

pub returns-in-Err : goal.returns-in-Err
returns-in-Err c =
    name_refused c.args.self.now.rest.now c.in_ok-bytes.bytes.now c.counted_bytes.new.self.rest.now c.in_ok-bytes.ensures c.in-Err.ensures.cases.0
