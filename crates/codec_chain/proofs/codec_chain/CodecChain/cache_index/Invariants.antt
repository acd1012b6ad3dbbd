use Rattle.std.proofs.Common.{take}
use Rattle.codec_chain.specs.Chain.{chain_stage}
use Rattle.codec_chain.specs.Place.{Placed}
use Rattle.codec_chain.proofs.codec_chain.CodecChain.cache_index.Given as goal

abbrev pub invariant-loop-single : goal.invariant-loop-single
invariant-loop-single g l =
    Placed (take l.single (chain_stage g.A.Codec.meaning g.B.Codec.meaning g.S.Codec.meaning l.self.stages).singles) l.place
