use Rattle.type_registry.proofs.Balance.{empty-balanced, released-balanced, released-stands, live-held}
use Rattle.type_registry.proofs.PlannedLists.{registered-balanced}
use Rattle.std.proofs.Common.{refl}
use Rattle.type_registry.proofs.laws.balanced_law.Goals as goal

pub returns : goal.returns
returns c = record {
  empty = empty-balanced;
  registered = λ r l m b. registered-balanced c.equality_law.ensures.group r l m b;
  released = λ r key b. released-balanced r key (r.held key) refl b;
  live = live-held;
  others = λ r key k l b differ st. released-stands r key (r.held key) refl b k l differ st;
}
