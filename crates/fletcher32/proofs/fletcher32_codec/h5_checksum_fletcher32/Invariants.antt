use Rattle.std.proofs.Common.{length}
use Rattle.fletcher32.proofs.Kept.{Kept}
use Rattle.fletcher32.proofs.fletcher32_codec.h5_checksum_fletcher32.Given as goal

abbrev pub invariant-loop-left : goal.invariant-loop-left
invariant-loop-left l = Kept l.bytes l.left l.sums.0 l.sums.1.0

abbrev pub decreases-loop-left : goal.decreases-loop-left
decreases-loop-left l = length l.left
