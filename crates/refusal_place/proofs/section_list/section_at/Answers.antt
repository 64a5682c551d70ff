use Rattle.std.proofs.Common.{refl, subst, ◌∙◌, arith, inl, inr}
use Rattle.std.specs.Option.{option_map}
use Rattle.refusal_place.specs.SectionList.{HasName}
use Rattle.refusal_place.proofs.Placed.{id_in}
use Rattle.refusal_place.proofs.SectionParts.{no_size, number_length, range_front, is_cut, is_section}
use Rattle.refusal_place.proofs.section_list.section_at.Goals as goal

pub returns-in_default-2 : goal.returns-in_default-2
returns-in_default-2 c = no_size c.args.rest.now c.in-len1-up.len_at_least (rw c.in_default-2.is at c.in_ok-size.ensures)

pub returns-in_default-get : goal.returns-in_default-get
returns-in_default-get c =
    let read = rw c.in-Some.is at c.in_ok-size.ensures in
    is_cut c.args.rest.now c.in-len1-up.len_at_least c.in-Some.size c.read_number.new.cursor.rest.now read
    (elim c.in_default-get.ensures.lookup.0 [ inl below ↦ absurd (omega (arith, below)) | inr short ↦ short ])

pub overflow_sub-offset : goal.overflow_sub-offset
overflow_sub-offset c =
    let read = rw c.in-Some.is at c.in_ok-size.ensures in
    number_length c.args.rest.now c.in-len1-up.len_at_least c.in-Some.size c.read_number.new.cursor.rest.now read

pub returns : goal.returns
returns c =
    let read = rw c.in-Some.is at c.in_ok-size.ensures in
    let found = c.in-Some-get.ensures.lookup.0 in
    let named = subst (λ l. HasName (id_in c.args.rest.now) l (option_map (λ text. text.now) c.in_ok-name.name)) (found.2 ∙ range_front c.in-Some.size c.read_number.new.cursor.rest.now) c.in_ok-name.ensures in
    (_, is_section c.args.rest.now c.in-len1-up.len_at_least c.in-Some.size c.read_number.new.cursor.rest.now read c.args.start _ found.1 refl refl refl refl named)
