use Rattle.std.proofs.Common.{ℕ, ◌-◌, ◌+◌, List, [], ◌∷◌, map, Option, refl, sym, subst, arith}
use Rattle.custom_sections.specs.NameReading.{naming_before, names_before}
use Rattle.custom_sections.proofs.Before.{naming_is, naming_none}
use Rattle.name_maps.specs.Entries.{NameMapEntry, entry_of, entry_in}
use Rattle.name_maps.proofs.Adding.{Adds, no_count, at_start, more, fails, is_done, map_push, entry_pushed}
use Rattle.name_maps.proofs.maps.add_map.Goals as goal

abbrev in_map : ℕ → Option ℕ → List (ℕ × List ℕ) → List NameMapEntry
in_map id outer names = map (entry_in id outer) names

pub returns-in_default-clause-added : goal.returns-in_default-clause-added
returns-in_default-clause-added c =
    (no_count naming_before (in_map c.args.subsection c.args.outer) (map entry_of c.args.entries.now.items) refl c.args.bytes.now
    c.in_default.ensures).entries

pub returns-in_default-clause-left : goal.returns-in_default-clause-left
returns-in_default-clause-left c =
    (no_count naming_before (in_map c.args.subsection c.args.outer) (map entry_of c.args.entries.now.items) refl c.args.bytes.now
    c.in_default.ensures).left

pub names-init : goal.names-init
names-init c =
    at_start naming_before (in_map c.args.subsection c.args.outer) (map entry_of c.args.entries.now.items) refl c.in-Some.count c.in-Some.rest.now
    c.args.bytes.now c.in-Some.ensures

pub returns-in_default-naming-clause-added : goal.returns-in_default-naming-clause-added
returns-in_default-naming-clause-added c =
    (fails naming_before (in_map c.args.subsection c.args.outer) (map entry_of c.args.entries.now.items) (map entry_of c.names.entries.items)
    c.in-Some.count c.names.counter c.names.rest.now _ c.names-test.true
    (naming_none c.names.rest.now c.in_default-naming.ensures) c.names.invariant).entries

pub returns-in_default-naming-clause-left : goal.returns-in_default-naming-clause-left
returns-in_default-naming-clause-left c =
    (fails naming_before (in_map c.args.subsection c.args.outer) (map entry_of c.args.entries.now.items) (map entry_of c.names.entries.items)
    c.in-Some.count c.names.counter c.names.rest.now _ c.names-test.true
    (naming_none c.names.rest.now c.in_default-naming.ensures) c.names.invariant).left

pub names-preserved : goal.names-preserved
names-preserved c =
    let id = c.args.subsection in
    let outer = c.args.outer in
    let old = map entry_of c.args.entries.now.items in
    let x : ℕ × List ℕ = (c.in-Some-naming.index, c.in-Some-naming.name.now) in
    let read = naming_is c.names.rest.now x c.in-Some-naming.after.now c.in-Some-naming.ensures in
    let pushed = entry_pushed c.names.entries.items c.push.new.self.items c.entry.result (entry_in id outer x) c.in_ok-push.ensures.items c.entry.ensures in
    let now = more naming_before (in_map id outer) old (λ y. entry_in id outer y ∷ []) (map_push id outer) (map entry_of c.names.entries.items) c.in-Some.count
    c.names.counter c.names.rest.now x c.in-Some-naming.after.now _ c.names-test.true read c.names.invariant in
    subst (λ (l : List NameMapEntry).
    Adds naming_before (in_map id outer) old l (c.in-Some.count - (c.names.counter + 1)) c.in-Some-naming.after.now (names_before c.args.bytes.now)) (sym pushed) now

pub returns-clause-added : goal.returns-clause-added
returns-clause-added c =
    (is_done naming_before (in_map c.args.subsection c.args.outer) (map entry_of c.args.entries.now.items) (map entry_of c.names.entries.items)
    c.in-Some.count c.names.counter c.names.rest.now _ c.names-test.false c.names.invariant).entries

pub returns-clause-left : goal.returns-clause-left
returns-clause-left c =
    let done = is_done naming_before (in_map c.args.subsection c.args.outer) (map entry_of c.args.entries.now.items) (map entry_of c.names.entries.items)
    c.in-Some.count c.names.counter c.names.rest.now _ c.names-test.false c.names.invariant in
    grind (arith, done.left)
