use Rattle.transpose.specs.Gatherings.{seat_in}
use Rattle.transpose.proofs.Gathering.{Gathered}
use Rattle.transpose.proofs.gather.Gathering.gather.Given as goal

abbrev pub invariant-loop-e : goal.invariant-loop-e
invariant-loop-e l = Gathered (seat_in l.self) l.size l.e l.source l.target
