use Rattle.std.proofs.Common.{◌≡◌, Some, Ok, Err, map, refl, sym, ap, ◌∙◌, subst}
use Rattle.codec_chain.specs.Place.{cache_index}
use Rattle.stage_names.specs.Names.{said_stage}
use Rattle.chunkctl.specs.declared.trouble.Trouble.TheVariants.{Refused}
use Rattle.chunkctl.specs.declared.answer.Answer.TheVariants.{Chain as ChainIs}
use Rattle.chunkctl.specs.declared.stages.Stages.TheVariants.{Chain}
use Rattle.chunkctl.specs.Carried.{ChainSet}
use Rattle.chain_draft.specs.Seal.{sealed_stage}
use Rattle.chunkctl.proofs.Called.{form_there}
use Rattle.stage_names.proofs.Adding.{is_err}
use Rattle.chunkctl.proofs.session.set_chain.Goals as goal

pub returns-in_err-chain-clause-answer : goal.returns-in_err-chain-clause-answer
returns-in_err-chain-clause-answer c =
    let e = c.in_err-chain.field-0.0 in
    let result = c.from_residual-in_err-chain.result in
    let there = form_there c.args.form.now c.in_ok-form.form c.in_ok-form.ensures in
    subst (λ form. ChainSet (map said_stage c.args.names.now) form c.args.stages.now result) (sym there)
    (Err e, (c.in_err-chain.ensures.made, is_err result (Refused e) c.from_residual-in_err-chain.ensures.1))

pub returns-clause-answer : goal.returns-clause-answer
returns-clause-answer c =
    let chain = c.in_ok-chain.chain in
    let form = c.in_ok-form.form in
    let place = c.cache_index.result in
    let bytes = c.encoded_len.result in
    let mean = sealed_stage chain.chain.stages in
    let there = form_there c.args.form.now form c.in_ok-form.ensures in
    let place_is : place ≡ cache_index mean.singles = c.cache_index.ensures.value ∙ ap (λ k. cache_index (sealed_stage k.stages).singles) c.chain.ensures in
    let bytes_are : bytes ≡ mean.size form 0 = c.encoded_len.ensures ∙ ap (λ f. mean.size f 0) c.in_ok-chain.ensures.form in
    subst (λ f. ChainSet (map said_stage c.args.names.now) f (Some (Chain chain)) (Ok (ChainIs place bytes))) (sym there) (
      Ok chain.chain.stages,
      (
        c.in_ok-chain.ensures.made,
        ((refl, c.in_ok-chain.ensures.form), ap (λ k. Ok (ChainIs k bytes)) place_is ∙ ap (λ n. Ok (ChainIs (cache_index mean.singles) n)) bytes_are),
      ),
    )
