use Rattle.std.proofs.Common.{refl, sym, ◌∙◌}
use Rattle.refusal_place.proofs.Placed.{unknown_decided, misplaced_decided, misplaced_wrong, after_unread, after_wrong, after_decided, after_open}
use Rattle.refusal_place.proofs.sections.section_place.Goals as goal

pub returns-in_default-of_id-clause-decided : goal.returns-in_default-of_id-clause-decided
returns-in_default-of_id-clause-decided c =
    rw c.id_place.ensures
    (unknown_decided c.args.start c.args.next c.args.rest.now c.requires.some (sym c.of_id.ensures ∙ c.in_default-of_id.is))

pub returns-then-is_misplaced-clause-wrong : goal.returns-then-is_misplaced-clause-wrong
returns-then-is_misplaced-clause-wrong c =
    rw c.id_place-then-is_misplaced.ensures (
      refl,
      misplaced_wrong c.args.start c.args.next c.args.rest.now c.requires.some c.in-Some.section (sym c.of_id.ensures ∙ c.in-Some.is)
          (sym c.is_misplaced.ensures ∙ c.if-is_misplaced.true),
    )

pub returns-then-is_misplaced-clause-decided : goal.returns-then-is_misplaced-clause-decided
returns-then-is_misplaced-clause-decided c =
    rw c.id_place-then-is_misplaced.ensures
    (misplaced_decided c.args.start c.args.next c.args.rest.now c.requires.some (sym c.is_misplaced.ensures ∙ c.if-is_misplaced.true))

pub sized_place-requires-clause-unread : goal.sized_place-requires-clause-unread
sized_place-requires-clause-unread c =
    let unread = c.requires.unread in (
      unread.0,
      after_unread c.args.start c.args.next c.args.rest.now c.requires.some c.in-Some.section (sym c.of_id.ensures ∙ c.in-Some.is)
          (sym c.is_misplaced.ensures ∙ c.if-is_misplaced.false) unread.0 unread.1,
    )

pub returns-clause-wrong : goal.returns-clause-wrong
returns-clause-wrong c =
    after_wrong c.args.start c.args.next c.args.rest.now c.requires.some c.in-Some.section (sym c.of_id.ensures ∙ c.in-Some.is)
    (sym c.is_misplaced.ensures ∙ c.if-is_misplaced.false) c.sized_place.result c.sized_place.ensures

pub returns-clause-decided : goal.returns-clause-decided
returns-clause-decided c =
    after_decided c.args.start c.args.next c.args.rest.now c.requires.some c.in-Some.section (sym c.of_id.ensures ∙ c.in-Some.is)
    (sym c.is_misplaced.ensures ∙ c.if-is_misplaced.false) c.sized_place.result c.sized_place.ensures

pub returns-clause-early : goal.returns-clause-early
returns-clause-early c =
    after_open c.args.start c.args.next c.args.rest.now c.requires.some c.in-Some.section (sym c.of_id.ensures ∙ c.in-Some.is)
    (sym c.is_misplaced.ensures ∙ c.if-is_misplaced.false) c.sized_place.result c.sized_place.ensures
