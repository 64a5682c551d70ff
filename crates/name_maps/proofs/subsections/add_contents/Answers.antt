use Rattle.std.proofs.Common.{map, false, sym, ◌∙◌, arith}
use Rattle.name_maps.specs.Entries.{entry_of, module_entry}
use Rattle.name_maps.specs.Reading.{contents_read}
use Rattle.name_maps.proofs.Adding.{entry_pushed}
use Rattle.name_maps.proofs.Contents.{no_module, one_module, indirect_is, map_is, skipped, nothing_more, added_as, filled_as}
use Rattle.name_maps.proofs.subsections.add_contents.Goals as goal

pub returns-in_default-clause-added : goal.returns-in_default-clause-added
returns-in_default-clause-added c =
    nothing_more (map entry_of c.args.entries.now.items) (contents_read c.args.subsection c.args.contents.now) false
    (no_module c.args.subsection c.args.contents.now c.if-subsection-eq-MODULE.true c.in_default.ensures)

pub returns-in_default-clause-filled : goal.returns-in_default-clause-filled
returns-in_default-clause-filled c =
    filled_as (contents_read c.args.subsection c.args.contents.now) _
    (no_module c.args.subsection c.args.contents.now c.if-subsection-eq-MODULE.true c.in_default.ensures)

pub returns-then-subsection-eq-MODULE-clause-added : goal.returns-then-subsection-eq-MODULE-clause-added
returns-then-subsection-eq-MODULE-clause-added c =
    added_as (map entry_of c.args.entries.now.items) (map entry_of c.push.new.self.items) (contents_read c.args.subsection c.args.contents.now) _
    (one_module c.args.subsection c.args.contents.now c.in-Some.name.now c.if-subsection-eq-MODULE.true c.in-Some.ensures)
    (entry_pushed c.args.entries.now.items c.push.new.self.items c.entry.result (module_entry c.args.subsection c.in-Some.name.now) c.in_ok-push.ensures.items
    c.entry.ensures)

pub returns-then-subsection-eq-MODULE-clause-filled : goal.returns-then-subsection-eq-MODULE-clause-filled
returns-then-subsection-eq-MODULE-clause-filled c =
    filled_as (contents_read c.args.subsection c.args.contents.now) _
    (one_module c.args.subsection c.args.contents.now c.in-Some.name.now c.if-subsection-eq-MODULE.true c.in-Some.ensures)

pub returns-then-is_indirect-clause-added : goal.returns-then-is_indirect-clause-added
returns-then-is_indirect-clause-added c =
    added_as (map entry_of c.args.entries.now.items) (map entry_of c.add_indirect_map.new.entries.items)
    (contents_read c.args.subsection c.args.contents.now) _
    (indirect_is c.args.subsection c.args.contents.now c.if-subsection-eq-MODULE.false (sym c.is_indirect.ensures ∙ c.if-is_indirect.true))
    c.in_ok-add_indirect_map.ensures.added

pub returns-then-is_indirect-clause-filled : goal.returns-then-is_indirect-clause-filled
returns-then-is_indirect-clause-filled c =
    let is = indirect_is c.args.subsection c.args.contents.now c.if-subsection-eq-MODULE.false (sym c.is_indirect.ensures ∙ c.if-is_indirect.true) in
    grind (arith, filled_as (contents_read c.args.subsection c.args.contents.now) _ is)

pub returns-then-subsection-le-TAGS-clause-added : goal.returns-then-subsection-le-TAGS-clause-added
returns-then-subsection-le-TAGS-clause-added c =
    added_as (map entry_of c.args.entries.now.items) (map entry_of c.add_map.new.entries.items)
    (contents_read c.args.subsection c.args.contents.now) _
    (map_is c.args.subsection c.args.contents.now c.if-subsection-eq-MODULE.false (sym c.is_indirect.ensures ∙ c.if-is_indirect.false)
    c.if-subsection-le-TAGS.true)
    c.in_ok-add_map.ensures.added

pub returns-then-subsection-le-TAGS-clause-filled : goal.returns-then-subsection-le-TAGS-clause-filled
returns-then-subsection-le-TAGS-clause-filled c =
    let is = map_is c.args.subsection c.args.contents.now c.if-subsection-eq-MODULE.false (sym c.is_indirect.ensures ∙ c.if-is_indirect.false)
    c.if-subsection-le-TAGS.true in
    grind (arith, filled_as (contents_read c.args.subsection c.args.contents.now) _ is)

pub returns-clause-added : goal.returns-clause-added
returns-clause-added c =
    nothing_more (map entry_of c.args.entries.now.items) (contents_read c.args.subsection c.args.contents.now) _
    (skipped c.args.subsection c.args.contents.now c.if-subsection-eq-MODULE.false (sym c.is_indirect.ensures ∙ c.if-is_indirect.false)
    c.if-subsection-le-TAGS.false)

pub returns-clause-filled : goal.returns-clause-filled
returns-clause-filled c =
    filled_as (contents_read c.args.subsection c.args.contents.now) _
    (skipped c.args.subsection c.args.contents.now c.if-subsection-eq-MODULE.false (sym c.is_indirect.ensures ∙ c.if-is_indirect.false)
    c.if-subsection-le-TAGS.false)
