use Rattle.std.proofs.Common.{ℕ, ◌-◌, ◌+◌, List, map, Some, None, refl, sym, subst, ◌∙◌, arith}
use Rattle.custom_sections.specs.NameReading.{names_before, locals_before, vector_before}
use Rattle.custom_sections.proofs.Before.{locals_none, local_step}
use Rattle.name_maps.specs.Entries.{NameMapEntry, entry_of, entry_in, indirect_entries}
use Rattle.name_maps.proofs.Adding.{Adds, no_count, at_start, more, ends, fails, is_done, indirect_push}
use Rattle.name_maps.proofs.maps.add_indirect_map.Goals as goal

abbrev One : Type 0
One = ℕ × List (ℕ × List ℕ)

abbrev in_one : ℕ → One → List NameMapEntry
in_one id x = map (entry_in id (Some x.0)) x.1

pub returns-in_default-clause-added : goal.returns-in_default-clause-added
returns-in_default-clause-added c =
    (no_count locals_before (indirect_entries c.args.subsection) (map entry_of c.args.entries.now.items) refl c.args.bytes.now
    c.in_default.ensures).entries

pub returns-in_default-clause-left : goal.returns-in_default-clause-left
returns-in_default-clause-left c =
    (no_count locals_before (indirect_entries c.args.subsection) (map entry_of c.args.entries.now.items) refl c.args.bytes.now
    c.in_default.ensures).left

pub maps-init : goal.maps-init
maps-init c =
    at_start locals_before (indirect_entries c.args.subsection) (map entry_of c.args.entries.now.items) refl c.in-Some.count c.in-Some.rest.now
    c.args.bytes.now c.in-Some.ensures

pub returns-in_default-u32_at-clause-added : goal.returns-in_default-u32_at-clause-added
returns-in_default-u32_at-clause-added c =
    (fails locals_before (indirect_entries c.args.subsection) (map entry_of c.args.entries.now.items) (map entry_of c.maps.entries.items)
    c.in-Some.count c.maps.counter c.maps.rest.now _ c.maps-test.true
    (locals_none c.maps.rest.now c.in_default-u32_at.ensures) c.maps.invariant).entries

pub returns-in_default-u32_at-clause-left : goal.returns-in_default-u32_at-clause-left
returns-in_default-u32_at-clause-left c =
    (fails locals_before (indirect_entries c.args.subsection) (map entry_of c.args.entries.now.items) (map entry_of c.maps.entries.items)
    c.in-Some.count c.maps.counter c.maps.rest.now _ c.maps-test.true
    (locals_none c.maps.rest.now c.in_default-u32_at.ensures) c.maps.invariant).left

pub returns-in_default-2-clause-added : goal.returns-in_default-2-clause-added
returns-in_default-2-clause-added c =
    let id = c.args.subsection in
    let inside = names_before c.in-Some-u32_at.map.now in
    let x : One = (c.in-Some-u32_at.outer, inside.0) in
    let read = local_step c.maps.rest.now c.in-Some-u32_at.outer c.in-Some-u32_at.map.now inside.0 None c.in-Some-u32_at.ensures refl
    (rw c.in_default-2.is at c.in_ok-after.ensures.left) in
    c.in_ok-after.ensures.added
    ∙ (ends locals_before (indirect_entries id) (map entry_of c.args.entries.now.items) (in_one id) (indirect_push id) (map entry_of c.maps.entries.items)
    c.in-Some.count c.maps.counter c.maps.rest.now x _ c.maps-test.true read c.maps.invariant).entries

pub returns-in_default-2-clause-left : goal.returns-in_default-2-clause-left
returns-in_default-2-clause-left c =
    let id = c.args.subsection in
    let inside = names_before c.in-Some-u32_at.map.now in
    let x : One = (c.in-Some-u32_at.outer, inside.0) in
    let read = local_step c.maps.rest.now c.in-Some-u32_at.outer c.in-Some-u32_at.map.now inside.0 None c.in-Some-u32_at.ensures refl
    (rw c.in_default-2.is at c.in_ok-after.ensures.left) in
    (ends locals_before (indirect_entries id) (map entry_of c.args.entries.now.items) (in_one id) (indirect_push id) (map entry_of c.maps.entries.items)
    c.in-Some.count c.maps.counter c.maps.rest.now x _ c.maps-test.true read c.maps.invariant).left

pub maps-preserved : goal.maps-preserved
maps-preserved c =
    let id = c.args.subsection in
    let old = map entry_of c.args.entries.now.items in
    let inside = names_before c.in-Some-u32_at.map.now in
    let x : One = (c.in-Some-u32_at.outer, inside.0) in
    let read = local_step c.maps.rest.now c.in-Some-u32_at.outer c.in-Some-u32_at.map.now inside.0 (Some c.in-Some-2.after.now) c.in-Some-u32_at.ensures
    refl (rw c.in-Some-2.is at c.in_ok-after.ensures.left) in
    let now = more locals_before (indirect_entries id) old (in_one id) (indirect_push id) (map entry_of c.maps.entries.items)
    c.in-Some.count c.maps.counter c.maps.rest.now x c.in-Some-2.after.now _ c.maps-test.true read c.maps.invariant in
    subst (λ (l : List NameMapEntry).
    Adds locals_before (indirect_entries id) old l (c.in-Some.count - (c.maps.counter + 1)) c.in-Some-2.after.now (vector_before locals_before c.args.bytes.now))
    (sym c.in_ok-after.ensures.added) now

pub returns-clause-added : goal.returns-clause-added
returns-clause-added c =
    (is_done locals_before (indirect_entries c.args.subsection) (map entry_of c.args.entries.now.items) (map entry_of c.maps.entries.items)
    c.in-Some.count c.maps.counter c.maps.rest.now _ c.maps-test.false c.maps.invariant).entries

pub returns-clause-left : goal.returns-clause-left
returns-clause-left c =
    let done = is_done locals_before (indirect_entries c.args.subsection) (map entry_of c.args.entries.now.items) (map entry_of c.maps.entries.items)
    c.in-Some.count c.maps.counter c.maps.rest.now _ c.maps-test.false c.maps.invariant in
    grind (arith, done.left)
