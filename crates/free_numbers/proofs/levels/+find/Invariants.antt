use Rattle.std.proofs.Common.{length}
use Rattle.free_numbers.proofs.levels.+find.Given as goal

abbrev pub decreases-find : goal.decreases-find
decreases-find l = length l.levels.now
