use Rattle.std.proofs.Common.{arith}
use Rattle.refusal_place.proofs.SizedContents.{no_size, short, number_length, the_contents}
use Rattle.refusal_place.proofs.seek.contents_in_section.Goals as goal

pub returns-in-None : goal.returns-in-None
returns-in-None c =
    let read = rw c.in-None.is at c.in_ok-size.ensures in
    no_size c.args.section c.args.sized.now read

pub returns-then-cursor-size : goal.returns-then-cursor-size
returns-then-cursor-size c =
    let read = rw c.in-Some.is at c.in_ok-size.ensures in
    short c.args.section c.args.sized.now c.in-Some.size c.read_number.new.cursor.rest.now read c.if-cursor-size.true

pub overflow_sub-result : goal.overflow_sub-result
overflow_sub-result c =
    let read = rw c.in-Some.is at c.in_ok-size.ensures in
    omega (arith, number_length c.args.section c.args.sized.now c.in-Some.size c.read_number.new.cursor.rest.now read)

pub returns : goal.returns
returns c =
    let read = rw c.in-Some.is at c.in_ok-size.ensures in
    the_contents c.args.section c.args.sized.now c.in-Some.size c.read_number.new.cursor.rest.now read c.if-cursor-size.false
