use Rattle.codec_chain.proofs.Order.{in_order}
use Rattle.codec_chain.proofs.codec_chain.CodecChain.codes_in_order.Goals as goal

pub returns : goal.returns
returns g c =
    let p = c.args.self.now.stages in
    in_order (g.A.Codec.meaning p.inner.inner) (g.B.Codec.meaning p.inner.outer) (g.S.Codec.meaning p.outer)
    (g.met.A.Codec.lawful p.inner.inner) (g.met.B.Codec.lawful p.inner.outer) (g.met.S.Codec.lawful p.outer)
