use Rattle.std.proofs.Common.{◌+◌, ◌*◌}
use Rattle.shuffle.proofs.Placed.{Placed}
use Rattle.shuffle.proofs.shuffle_codec.turn.Given as goal

abbrev pub invariant-loop-i : goal.invariant-loop-i
invariant-loop-i l = Placed l.rows l.cols l.fn.table l.out (l.i * l.cols)

abbrev pub invariant-loop-j : goal.invariant-loop-j
invariant-loop-j l = Placed l.rows l.cols l.fn.table l.out (l.i * l.cols + l.j)
