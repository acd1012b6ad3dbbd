use Rattle.std.proofs.Common.{◌≡◌, ℕ, ◌<◌, length}
use Rattle.form.specs.Shapes.{on}
use Rattle.axes.specs.Axes.{place}
use Rattle.transpose.proofs.transpose_codec.TransposeCodec.inverse.Given as goal

abbrev pub invariant-loop-k : goal.invariant-loop-k
invariant-loop-k l = (length l.order ≡ 4) × ((a : ℕ) → a < 4 → on l.order a ≡ place (on l.self.order) l.k a)
