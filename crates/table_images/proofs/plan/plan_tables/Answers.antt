use Rattle.std.proofs.Common.{refl, arith, length-drop}
use Rattle.std.proofs.lemmas.List.{take_all}
use Rattle.entity_map.proofs.LentLemmas.{refill-same_length}
use Rattle.table_images.proofs.Tables.{first-length}
use Rattle.table_images.proofs.Planned.{planned-none}
use Rattle.table_images.proofs.plan.plan_tables.Goals as goal

pub returns-then-not-lazy-clause-images : goal.returns-then-not-lazy-clause-images
returns-then-not-lazy-clause-images c = grind (arith, take_all, length-drop, first-length)

pub returns-then-not-lazy-clause-planned : goal.returns-then-not-lazy-clause-planned
returns-then-not-lazy-clause-planned c = grind (arith, take_all, length-drop, planned-none)

pub returns-then-not-lazy-clause-left : goal.returns-then-not-lazy-clause-left
returns-then-not-lazy-clause-left c = record { taken = 0; segments = refl; initialisers = λ i e is. is }

pub returns-clause-images : goal.returns-clause-images
returns-clause-images c = grind (arith, take_all, length-drop, refill-same_length, first-length)

pub returns-clause-planned : goal.returns-clause-planned
returns-clause-planned c = grind (arith, take_all, length-drop, refill-same_length)
