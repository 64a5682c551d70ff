use Rattle.std.proofs.Common.{◌≡◌, length, sym, map}
use Rattle.std.proofs.lemmas.Bool.{eqb-true, eqb-false}
use Rattle.custom_sections.specs.Views.{hint_entry_of}
use Rattle.custom_sections.proofs.HintLaws.{section_spelled, read_whole, not_with_rest, not_with_fault, only_read, not_spelled}
use Rattle.custom_sections.proofs.hints.read_hints.Goals as goal

pub returns-in_default : goal.returns-in_default
returns-in_default c =
    let none = not_with_fault c.args.contents.now (rw c.in_default.is at c.in_ok-all.ensures) in
    record { read = none; spelled = tt; complete = λ es. not_spelled c.args.contents.now es none }

pub returns-then-not-is_empty : goal.returns-then-not-is_empty
returns-then-not-is_empty c =
    let read = rw c.in-Some.is at c.in_ok-all.ensures in
    let differs : ¬ (length c.in-Some.rest.now ≡ 0) = eqb-false _ _ (sym c.if-not-is_empty.ensures) in
    let none = not_with_rest c.args.contents.now (map hint_entry_of c.in-Some.all.items) c.in-Some.rest.now read differs in
    record { read = none; spelled = tt; complete = λ es. not_spelled c.args.contents.now es none }

pub returns : goal.returns
returns c =
    let read = rw c.in-Some.is at c.in_ok-all.ensures in
    let filled = eqb-true _ _ (sym c.if-not-is_empty.ensures) in
    let all = read_whole c.args.contents.now (map hint_entry_of c.in-Some.all.items) c.in-Some.rest.now read filled in
    record {
      read = all;
      spelled = section_spelled c.args.contents.now (map hint_entry_of c.in-Some.all.items) (sym all);
      complete = λ es. only_read c.args.contents.now (map hint_entry_of c.in-Some.all.items) es all;
    }
