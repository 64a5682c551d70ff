use Rattle.std.proofs.Common.{◌∙◌, length, get_or, map, sym, ap, arith}
use Rattle.std.proofs.lemmas.Option.{slice_get_read}
use Rattle.form_reader.specs.Views.{group_of}
use Rattle.form_types.specs.Types.{types_by_id, group_numbers}
use Rattle.form_types.proofs.Looking.{length_numbers, member-of}
use Rattle.form_types.proofs.types.Types.rec_group_id_of.Goals as goal

pub index-requires : goal.index-requires
index-requires c =
    let known = rw (← c.self.view_is) at c.requires in
    omega (arith, known, length_numbers 0 (map group_of c.self.inside.distinct.groups.items), ap length c.self.invariant.listed.numbers_are, c.self.inside.distinct.numbers.ok.0)

pub returns-clause-number : goal.returns-clause-number
returns-clause-number c =
    let known = rw (← c.self.view_is) at c.requires in
    let gs = map group_of c.self.inside.distinct.groups.items in
    rw (← c.self.view_is) (slice_get_read (group_numbers 0 gs) (length (types_by_id gs)) c.args.id.0 c.index.result.now
    (sym (length_numbers 0 gs)) known (c.index.ensures ∙ ap (λ l. get_or l c.args.id.0 c.index.result.now) c.self.invariant.listed.numbers_are))

pub returns-clause-known : goal.returns-clause-known
returns-clause-known c =
    let known = rw (← c.self.view_is) at c.requires in
    let gs = map group_of c.self.inside.distinct.groups.items in
    rw (← c.self.view_is) ((member-of gs c.self.inside.distinct.numbers.items c.self.invariant.listed.numbers_are c.args.id.0 known c.index.result.now c.index.ensures).1.below)
