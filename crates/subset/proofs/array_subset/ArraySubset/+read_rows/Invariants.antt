use Rattle.std.proofs.Common.{◌≡◌, length}
use Rattle.subset.proofs.Reading.{read_to}
use Rattle.subset.proofs.array_subset.ArraySubset.+read_rows.Given as goal

abbrev pub decreases-read_rows : goal.decreases-read_rows
decreases-read_rows l = length l.array_shape.now

-- the slabs so far are read
abbrev pub invariant-loop-k : goal.invariant-loop-k
invariant-loop-k l = l.output ≡ read_to l.array_shape l.self.start.now l.self.shape.now l.size l.array l.fn.output l.k
