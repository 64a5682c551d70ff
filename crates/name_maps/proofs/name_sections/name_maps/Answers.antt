use Rattle.std.proofs.Common.{map, get_or, None, sym, subst, ap, ◌∙◌}
use Rattle.std.specs.Prelude.{All}
use Rattle.std.proofs.lemmas.List.Elements.{All-get_or}
use Rattle.refusal_place.specs.declared.section_list.SectionPlace.{SectionPlace}
use Rattle.name_maps.specs.Entries.{entry_of}
use Rattle.name_maps.proofs.Placed.{IsPart, listed_in}
use Rattle.name_maps.proofs.Unique.{named_added, other_added, next_section, all_sections, names_told, names_only}
use Rattle.name_maps.proofs.name_sections.name_maps.Goals.{then-is_name_section+in_ok-add_section, else-is_name_section}
use Rattle.name_maps.proofs.name_sections.name_maps.Goals as goal

pub contents-requires : goal.contents-requires
contents-requires c =
    let bytes = c.args.bytes.now in
    let places = c.deref-place-items.result.now in
    let parts = subst (All (IsPart bytes)) (sym c.deref-place-items.ensures.value) (listed_in bytes c.in_ok-places.places.items c.in_ok-places.ensures.sections) in
    (All-get_or (IsPart bytes) places c.loop-place.place-index _ c.loop-place-test.true parts).within

pub loop-place-preserved : goal.loop-place-preserved
loop-place-preserved c =
    let bytes = c.args.bytes.now in
    let places = c.deref-place-items.result.now in
    let now = map entry_of c.loop-place.entries.items in
    let after = map entry_of c.if-is_name_section.entries.items in
    let none : SectionPlace = record { id = 0; start = 0; contents = 0; size = 0; name = None } in
    let place = get_or places c.loop-place.place-index none in
    next_section bytes places c.loop-place.place-index now c.loop-place.invariant none after c.loop-place-test.true
    (elim c.if-is_name_section.branch [
      | then-is_name_section+in_ok-add_section w ↦
          ap (λ v. map entry_of v.items) w.entries-is
          ∙ named_added bytes place now w.contents.result.now _ (sym c.is_name_section.ensures ∙ w.if-is_name_section.true) w.contents.ensures w.in_ok-add_section.ensures
      | else-is_name_section w ↦
          ap (λ v. map entry_of v.items) w.entries-is ∙ other_added bytes place now (sym c.is_name_section.ensures ∙ w.if-is_name_section.false)
    ])

pub returns-clause-told : goal.returns-clause-told
returns-clause-told c =
    let bytes = c.args.bytes.now in
    let now = map entry_of c.loop-place.entries.items in
    let items = c.in_ok-places.places.items in
    names_told bytes items c.in_ok-places.ensures.sections c.in_ok-places.ensures.all now
    (all_sections bytes c.deref-place-items.result.now c.loop-place.place-index now c.loop-place.invariant items c.deref-place-items.ensures.value
    c.loop-place-test.false)

pub returns-clause-only : goal.returns-clause-only
returns-clause-only c =
    let bytes = c.args.bytes.now in
    let now = map entry_of c.loop-place.entries.items in
    let items = c.in_ok-places.places.items in
    names_only bytes items c.in_ok-places.ensures.sections now
    (all_sections bytes c.deref-place-items.result.now c.loop-place.place-index now c.loop-place.invariant items c.deref-place-items.ensures.value
    c.loop-place-test.false)
