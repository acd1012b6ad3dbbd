use Rattle.std.proofs.Common.{Some, sym, ap, ◌∙◌, subst}
use Rattle.chunkctl.specs.Carried.{Decoding, LengthsTold, LengthsAnswer}
use Rattle.chain_draft.specs.Seal.{sealed_stage}
use Rattle.chunkctl.proofs.session.lengths.Goals as goal

pub returns-in_ok-form-in-Chain : goal.returns-in_ok-form-in-Chain
returns-in_ok-form-in-Chain c =
    let chain = c.in-Chain.chain in
    let result = c.lengths_by-in-Chain.result in
    let there = c.in_ok-codec.ensures ∙ ap Some c.in-Chain.is in
    let stages = c.stages.ensures ∙ ap (λ k. k.stages) c.chain.ensures in
    subst (λ s. LengthsAnswer s c.args.form.now c.args.decoded result) (sym there)
    (subst (λ d. Decoding d (LengthsTold (sealed_stage chain.chain.stages)) result) c.in_ok-form-in-Chain.ensures
    (subst (λ p. LengthsTold (sealed_stage p) c.in_ok-form-in-Chain.form result) stages c.lengths_by-in-Chain.ensures))
