use Rattle.chunks.proofs.Loading.{Filled}
use Rattle.chunks.proofs.reading.fill.Given as goal

abbrev pub invariant-loop-i : goal.invariant-loop-i
invariant-loop-i l = Filled l.i l.element l.work
