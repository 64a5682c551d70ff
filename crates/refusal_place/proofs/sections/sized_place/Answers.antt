use Rattle.std.proofs.Common.{take, arith}
use Rattle.std.proofs.lemmas.List.{length-take}
use Rattle.form_reader.specs.Reading.{Bad}
use Rattle.refusal_place.proofs.Wrong.{size_is_wrong, size_length, cut_is_wrong, contents_unread, contents_wrong, offset_within}
use Rattle.refusal_place.proofs.sections.sized_place.Goals as goal

pub returns-in-None : goal.returns-in-None
returns-in-None c =
    let read = rw c.in-None.is at c.in_ok-size.ensures in
    rw c.size_place.ensures (size_is_wrong c.args.start c.args.section c.args.sized.now Bad read)

pub overflow_sub-contents_start : goal.overflow_sub-contents_start
overflow_sub-contents_start c =
    let read = rw c.in-Some.is at c.in_ok-size.ensures in
    omega (arith, size_length c.args.start c.args.section c.args.sized.now c.in-Some.size c.read_number.new.cursor.rest.now read)

pub returns-then-cursor-size : goal.returns-then-cursor-size
returns-then-cursor-size c =
    let read = rw c.in-Some.is at c.in_ok-size.ensures in
    rw c.cut_place.ensures
    (cut_is_wrong c.args.start c.args.section c.args.sized.now c.in-Some.size c.read_number.new.cursor.rest.now read c.if-cursor-size.true)

pub contents_fault-requires : goal.contents_fault-requires
contents_fault-requires c =
    let read = rw c.in-Some.is at c.in_ok-size.ensures in
    let unread = c.requires.unread in
    record {
      unread = contents_unread c.args.start c.args.section c.args.sized.now c.in-Some.size c.read_number.new.cursor.rest.now read
          c.if-cursor-size.false unread.0 unread.1;
    }

pub returns : goal.returns
returns c =
    let read = rw c.in-Some.is at c.in_ok-size.ensures in
    let unread = c.requires.unread in
    let contents = contents_unread c.args.start c.args.section c.args.sized.now c.in-Some.size c.read_number.new.cursor.rest.now read
    c.if-cursor-size.false unread.0 unread.1 in
    contents_wrong c.args.start c.args.section c.args.sized.now c.in-Some.size c.read_number.new.cursor.rest.now read c.if-cursor-size.false
    c.in_ok-found.found.fault c.in_ok-found.found.entry c.in_ok-found.found.offset contents c.in_ok-found.ensures

pub overflow_add-result : goal.overflow_add-result
overflow_add-result c =
    let read = rw c.in-Some.is at c.in_ok-size.ensures in
    let long = size_length c.args.start c.args.section c.args.sized.now c.in-Some.size c.read_number.new.cursor.rest.now read in
    let within = offset_within c.in_ok-found.found.fault c.args.section (take c.in-Some.size c.read_number.new.cursor.rest.now) c.in_ok-found.found.entry
    c.in_ok-found.found.offset c.in_ok-found.ensures in
    omega (arith, long, within, length-take c.in-Some.size c.read_number.new.cursor.rest.now)

pub overflow_cast-result-2 : goal.overflow_cast-result-2
overflow_cast-result-2 c =
    let read = rw c.in-Some.is at c.in_ok-size.ensures in
    let long = size_length c.args.start c.args.section c.args.sized.now c.in-Some.size c.read_number.new.cursor.rest.now read in
    let within = offset_within c.in_ok-found.found.fault c.args.section (take c.in-Some.size c.read_number.new.cursor.rest.now) c.in_ok-found.found.entry
    c.in_ok-found.found.offset c.in_ok-found.ensures in
    omega (arith, long, within, length-take c.in-Some.size c.read_number.new.cursor.rest.now)

pub overflow_cast-result-3 : goal.overflow_cast-result-3
overflow_cast-result-3 c =
    let read = rw c.in-Some.is at c.in_ok-size.ensures in
    let long = size_length c.args.start c.args.section c.args.sized.now c.in-Some.size c.read_number.new.cursor.rest.now read in
    omega (arith, long)
