use Rattle.std.proofs.Common.{◌≡◌, length}
use Rattle.form.specs.Shapes.{on}
use Rattle.axes.proofs.Loops.{Peeled}
use Rattle.transpose.proofs.gather.Gathering.index.Given as goal

abbrev pub invariant-loop-a : goal.invariant-loop-a
invariant-loop-a l = (length l.at ≡ 4) × Peeled (on l.self.by.lengths) l.self.of.dims l.element (on l.at) l.rest l.a
