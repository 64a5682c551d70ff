use Rattle.gc_layout.proofs.KindLaws.{matches_as_tree, matches_antisymmetric}
use Rattle.gc_layout.proofs.laws.kinds_are_a_tree.Goals as goal

pub returns-clause-antisymmetric : goal.returns-clause-antisymmetric
returns-clause-antisymmetric c = matches_antisymmetric

pub returns-clause-tree : goal.returns-clause-tree
returns-clause-tree c = matches_as_tree
