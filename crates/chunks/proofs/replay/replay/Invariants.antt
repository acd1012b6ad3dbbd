use Rattle.std.proofs.Common.{length}
use Rattle.chunks.proofs.Replaying.{Replaying}
use Rattle.chunks.proofs.replay.replay.Given as goal

abbrev pub invariant-loop-i : goal.invariant-loop-i
invariant-loop-i g l = Replaying (length l.fn.work) (length l.fn.scratch) l.calls l.fn.answers l.fn.output l.fn.chunk l.i l.from l.answers l.output l.chunk
