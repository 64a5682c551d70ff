use Rattle.rule_breaks.proofs.refused.broken_at.Goals as goal

pub unreachable-requires : goal.unreachable-requires
unreachable-requires c = c.in_ok-found.ensures.none c.in_default.is c.requires.listed
