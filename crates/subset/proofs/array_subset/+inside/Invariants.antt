use Rattle.std.proofs.Common.{length}
use Rattle.subset.proofs.array_subset.+inside.Given as goal

abbrev pub decreases-inside : goal.decreases-inside
decreases-inside l = length l.array.now
