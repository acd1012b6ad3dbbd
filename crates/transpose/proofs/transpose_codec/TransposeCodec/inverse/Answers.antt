use Rattle.std.proofs.Common.{◌≡◌, ap, ◌∙◌, arith}
use Rattle.form.specs.Shapes.{on}
use Rattle.axes.specs.Axes.{place}
use Rattle.transpose.proofs.Orders.{permutes_back}
use Rattle.transpose.proofs.transpose_codec.TransposeCodec.inverse.Goals as goal

pub invariant_of-result : goal.invariant_of-result
invariant_of-result c =
    let t = c.args.self.now in
    let e : c.loop-k.k ≡ t.dims = omega arith in
    record { permutes = permutes_back (on t.order) (on c.loop-k.order) t.dims t.permutes (λ a l. c.loop-k.invariant.1 a (omega arith) ∙ ap (λ v. place (on t.order) v a) e) }
