use Rattle.std.proofs.Common.{◌≡◌, length}
use Rattle.form.specs.Shapes.{on}
use Rattle.axes.specs.Axes.{offset}
use Rattle.transpose.proofs.gather.Gathering.offset.Given as goal

abbrev pub invariant-loop-length : goal.invariant-loop-length
invariant-loop-length l =
    l.n ≡ offset (on l.self.of.lengths) (λ a. on l.at (on l.self.order.order a)) (length l.yielded)
