use Rattle.std.proofs.Common.{◌≡◌, take, subst, arith}
use Rattle.std.proofs.lemmas.List.{take_all}
use Rattle.codec_chain.specs.Chain.{chain_stage}
use Rattle.codec_chain.specs.Place.{Placed}
use Rattle.codec_chain.proofs.Place.{past_it, before_it, as_it_was, placed_is}
use Rattle.codec_chain.proofs.codec_chain.CodecChain.cache_index.Goals as goal
use Rattle.codec_chain.proofs.codec_chain.CodecChain.cache_index.Goals.{then-not-capability, else-not-capability+then-not-capability-2, else-not-capability+else-not-capability-2}

pub loop-single-preserved : goal.loop-single-preserved
loop-single-preserved g c =
    let t = chain_stage g.A.Codec.meaning g.B.Codec.meaning g.S.Codec.meaning c.args.self.now.stages in
    let k = c.loop-single.single in
    let one = c.unwrap-capability.result in
    let place = c.if-not-capability.place in
    elim c.if-not-capability.branch [
      | then-not-capability w ↦ past_it t.singles k c.loop-single.place c.capability.result one (omega arith) c.loop-single.invariant c.capability.ensures c.unwrap-capability.ensures place w.if-not-capability.true w.place-is
      | else-not-capability+then-not-capability-2 w ↦ before_it t.singles k c.loop-single.place c.capability.result one (omega arith) c.loop-single.invariant c.capability.ensures c.unwrap-capability.ensures place w.if-not-capability.false w.if-not-capability-2.true w.place-is
      | else-not-capability+else-not-capability-2 w ↦ as_it_was t.singles k c.loop-single.place c.capability.result one (omega arith) c.loop-single.invariant c.capability.ensures c.unwrap-capability.ensures place w.if-not-capability.false w.if-not-capability-2.false w.place-is
    ]

pub returns-clause-value : goal.returns-clause-value
returns-clause-value g c =
    let t = chain_stage g.A.Codec.meaning g.B.Codec.meaning g.S.Codec.meaning c.args.self.now.stages in
    let all : take c.loop-single.single t.singles ≡ t.singles = take_all c.loop-single.single t.singles (omega arith) in
    placed_is t.singles c.loop-single.place (subst (λ xs. Placed xs c.loop-single.place) all c.loop-single.invariant)
