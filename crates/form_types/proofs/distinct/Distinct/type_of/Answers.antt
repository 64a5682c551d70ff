use Rattle.std.proofs.Common.{◌≡◌, ◌∙◌, ◌-◌, ◌<◌, ℕ, List, [], length, get_or, map, Some, sym, ap, arith}
use Rattle.std.proofs.lemmas.List.{length-map, get_or-map}
use Rattle.std.proofs.lemmas.Option.{slice_get-get_or}
use Rattle.form_reader.specs.Views.{sub_type_of, group_of}
use Rattle.form_reader.specs.declared.types.RecGroup.{RecGroup}
use Rattle.form_types.specs.Types.{NamedGroup, types_by_id}
use Rattle.form_types.proofs.Looking.{length_numbers, length_spans, member-of, member-in}
use Rattle.form_types.proofs.distinct.Distinct.type_of.Goals as goal

group-at : (groups : List RecGroup) (k : ℕ) (g : RecGroup) → k < length (map group_of groups) → g ≡ get_or groups k g
    → get_or (map group_of groups) k [] ≡ group_of g
group-at groups k g lt is = get_or-map group_of groups k g [] (omega (arith, length-map groups group_of)) ∙ ap group_of (sym is)

pub index-requires : goal.index-requires
index-requires c =
    omega (arith, c.requires.known, length_numbers 0 (map group_of c.args.self.now.groups.items), ap length c.requires.listed.numbers_are, c.args.self.now.numbers.ok.0)

pub index-requires-2 : goal.index-requires-2
index-requires-2 c =
    let m = member-of (map group_of c.args.self.now.groups.items) c.args.self.now.numbers.items c.requires.listed.numbers_are c.args.id.0 c.requires.known c.index.result.now c.index.ensures in
    omega (arith, m.1.below, length_spans 0 (map group_of c.args.self.now.groups.items), ap length c.requires.listed.spans_are, c.args.self.now.spans.ok.0)

pub index-requires-3 : goal.index-requires-3
index-requires-3 c =
    let m = member-of (map group_of c.args.self.now.groups.items) c.args.self.now.numbers.items c.requires.listed.numbers_are c.args.id.0 c.requires.known c.index.result.now c.index.ensures in
    omega (arith, m.1.below, length-map c.args.self.now.groups.items group_of, c.args.self.now.groups.ok.0)

pub overflow_sub-id : goal.overflow_sub-id
overflow_sub-id c =
    (member-in (map group_of c.args.self.now.groups.items) c.args.self.now.numbers.items c.args.self.now.spans.items c.requires.listed.numbers_are c.requires.listed.spans_are c.args.id.0 c.requires.known c.index.result.now c.index.ensures c.index-2.result.now c.index-2.ensures).starts

pub index-requires-4 : goal.index-requires-4
index-requires-4 c =
    let groups = c.args.self.now.groups.items in
    let m = member-in (map group_of groups) c.args.self.now.numbers.items c.args.self.now.spans.items c.requires.listed.numbers_are c.requires.listed.spans_are c.args.id.0 c.requires.known c.index.result.now c.index.ensures c.index-2.result.now c.index-2.ensures in
    let g = group-at groups c.index.result.now c.index-3.result.now m.below c.index-3.ensures in
    omega (arith, rw g at m.within, length-map c.index-3.result.now.types.items sub_type_of, c.index-3.result.now.types.ok.0)

pub returns : goal.returns
returns c =
    let groups = c.args.self.now.groups.items in
    let m = member-in (map group_of groups) c.args.self.now.numbers.items c.args.self.now.spans.items c.requires.listed.numbers_are c.requires.listed.spans_are c.args.id.0 c.requires.known c.index.result.now c.index.ensures c.index-2.result.now c.index-2.ensures in
    let g = group-at groups c.index.result.now c.index-3.result.now m.below c.index-3.ensures in
    let items = c.index-3.result.now.types.items in
    let place = c.args.id.0 - c.index-2.result.now.0 in
    let type = c.index-4.result.now in
    let within : place < length items = omega (arith, rw g at m.within, length-map items sub_type_of) in
    let found : get_or (types_by_id (map group_of groups)) c.args.id.0 (sub_type_of type) ≡ sub_type_of type =
    m.same (sub_type_of type) ∙ ap (λ (l : NamedGroup). get_or l place (sub_type_of type)) g
    ∙ get_or-map sub_type_of items place type (sub_type_of type) within ∙ ap sub_type_of (sym c.index-4.ensures) in
    (slice_get-get_or (types_by_id (map group_of groups)) c.args.id.0 (sub_type_of type) c.requires.known ∙ ap (λ x. Some x) found)
