use Rattle.codec_chain.proofs.Whole.{chain_laws, returns as whole_returns}
use Rattle.codec_chain.proofs.fitted_chain.FittedChain.decoding_returns.Goals as goal

pub returns : goal.returns
returns g c =
    whole_returns _ _ _
    (chain_laws g.A.Codec.meaning g.B.Codec.meaning g.S.Codec.meaning g.met.A.Codec.lawful g.met.B.Codec.lawful g.met.S.Codec.lawful c.args.self.now.chain.stages)
    c.args.self.now.form c.args.self.now.taken
