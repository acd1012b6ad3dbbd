use Rattle.std.proofs.Common.{◌≡◌, length}
use Rattle.subset.proofs.Writing.{written_to}
use Rattle.subset.proofs.array_subset.ArraySubset.+write_rows.Given as goal

abbrev pub decreases-write_rows : goal.decreases-write_rows
decreases-write_rows l = length l.array_shape.now

-- the slabs so far are written
abbrev pub invariant-loop-k : goal.invariant-loop-k
invariant-loop-k l = l.array ≡ written_to l.array_shape l.self.start.now l.self.shape.now l.size l.elements l.fn.array l.k
