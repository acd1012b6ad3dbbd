use Rattle.std.proofs.Common.{refl}
use Rattle.transpose.proofs.Orders.{permutes_front}
use Rattle.transpose.proofs.transpose_codec.TransposeCodec.order.Goals as goal

pub returns-clause-permutes : goal.returns-clause-permutes
returns-clause-permutes c =
    let t = c.args.self.now in
    permutes_front t.order _ t.dims refl t.permutes
