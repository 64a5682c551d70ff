use Rattle.std.proofs.Common.{arith}
use Rattle.form_reader.specs.NumberLaws.{number_shortens}
use Rattle.form_reader.proofs.cursor.Cursor.code.Goals as goal

pub overflow_sub-offset : goal.overflow_sub-offset
overflow_sub-offset c = number_shortens 32 c.args.self.now.rest.now c.in_ok-size.size c.u32.new.self.rest.now c.in_ok-size.ensures

pub overflow_add-offset : goal.overflow_add-offset
overflow_add-offset c =
    let short = number_shortens 32 c.args.self.now.rest.now c.in_ok-size.size c.u32.new.self.rest.now c.in_ok-size.ensures in
    omega arith
