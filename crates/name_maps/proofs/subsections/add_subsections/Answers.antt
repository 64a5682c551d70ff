use Rattle.std.proofs.Common.{◌-◌, ◌+◌, List, map, true, false, refl, sym, subst, ◌∙◌}
use Rattle.custom_sections.specs.NameReading.{elements_before}
use Rattle.name_maps.specs.Entries.{NameMapEntry, entry_of, all_entries}
use Rattle.name_maps.specs.Reading.{contents_read, subsection_before}
use Rattle.name_maps.proofs.Adding.{Adds, begins, more, ends, fails, is_done, all_push}
use Rattle.name_maps.proofs.Contents.{no_subsection, one_subsection}
use Rattle.name_maps.proofs.subsections.add_subsections.Goals as goal

pub subsections-init : goal.subsections-init
subsections-init c = begins subsection_before all_entries (map entry_of c.args.entries.now.items) refl c.args.most c.args.bytes.now

pub returns-in_default : goal.returns-in_default
returns-in_default c =
    (fails subsection_before all_entries (map entry_of c.args.entries.now.items) (map entry_of c.subsections.entries.items) c.args.most
    c.subsections.counter c.subsections.rest.now _ c.subsections-test.true
    (no_subsection c.subsections.rest.now c.in_default.ensures) c.subsections.invariant).entries

pub returns-then-not-filled : goal.returns-then-not-filled
returns-then-not-filled c =
    let read = one_subsection c.subsections.rest.now c.in-Some.id c.in-Some.contents.now c.in-Some.after.now false c.in-Some.ensures
    (sym c.in_ok-filled.ensures.filled ∙ c.if-not-filled.true) in
    c.in_ok-filled.ensures.added
    ∙ (ends subsection_before all_entries (map entry_of c.args.entries.now.items) (λ x. x) all_push (map entry_of c.subsections.entries.items) c.args.most
    c.subsections.counter c.subsections.rest.now (contents_read c.in-Some.id c.in-Some.contents.now).0 _ c.subsections-test.true read c.subsections.invariant).entries

pub subsections-preserved : goal.subsections-preserved
subsections-preserved c =
    let old = map entry_of c.args.entries.now.items in
    let read = one_subsection c.subsections.rest.now c.in-Some.id c.in-Some.contents.now c.in-Some.after.now true c.in-Some.ensures
    (sym c.in_ok-filled.ensures.filled ∙ c.if-not-filled.false) in
    let now = more subsection_before all_entries old (λ x. x) all_push (map entry_of c.subsections.entries.items) c.args.most
    c.subsections.counter c.subsections.rest.now (contents_read c.in-Some.id c.in-Some.contents.now).0 c.in-Some.after.now _ c.subsections-test.true read
    c.subsections.invariant in
    subst (λ (l : List NameMapEntry).
    Adds subsection_before all_entries old l (c.args.most - (c.subsections.counter + 1)) c.in-Some.after.now
    (elements_before subsection_before c.args.most c.args.bytes.now)) (sym c.in_ok-filled.ensures.added) now

pub returns : goal.returns
returns c =
    (is_done subsection_before all_entries (map entry_of c.args.entries.now.items) (map entry_of c.subsections.entries.items) c.args.most
    c.subsections.counter c.subsections.rest.now _ c.subsections-test.false c.subsections.invariant).entries
