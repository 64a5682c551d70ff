use Rattle.std.proofs.Common.{◌∙◌, length, get_or, map, ap, arith}
use Rattle.form_reader.specs.Views.{group_of}
use Rattle.form_types.proofs.Looking.{length_spans, members-found}
use Rattle.form_types.proofs.types.Types.rec_group_elements.Goals as goal

pub index-requires : goal.index-requires
index-requires c =
    let known = rw (← c.self.view_is) at c.requires in
    omega (arith, known, length_spans 0 (map group_of c.self.inside.distinct.groups.items), ap length c.self.invariant.listed.spans_are, c.self.inside.distinct.spans.ok.0)

pub between-requires : goal.between-requires
between-requires c =
    let known = rw (← c.self.view_is) at c.requires in
    (members-found 0 (map group_of c.self.inside.distinct.groups.items) c.args.group.0 known c.index.result.now
    (c.index.ensures ∙ ap (λ l. get_or l c.args.group.0 c.index.result.now) c.self.invariant.listed.spans_are)).0

pub returns : goal.returns
returns c =
    let known = rw (← c.self.view_is) at c.requires in
    rw (← c.self.view_is, c.between.ensures) ((members-found 0 (map group_of c.self.inside.distinct.groups.items) c.args.group.0 known c.index.result.now
    (c.index.ensures ∙ ap (λ l. get_or l c.args.group.0 c.index.result.now) c.self.invariant.listed.spans_are)).1)
