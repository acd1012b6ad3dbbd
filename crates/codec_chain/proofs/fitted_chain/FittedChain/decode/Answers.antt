use Rattle.std.proofs.Common.{length, ◌∙◌, ap}
use Rattle.stage.specs.Arrays.{array_bytes}
use Rattle.stage.specs.Calls.{undo_answer}
use Rattle.codec_chain.specs.Chain.{chain_stage}
use Rattle.codec_chain.proofs.Whole.{chain_laws, whole_undo}
use Rattle.codec_chain.proofs.fitted_chain.FittedChain.decode.Goals as goal

pub returns-clause-answer : goal.returns-clause-answer
returns-clause-answer g c =
    c.undo.ensures.answer
    ∙ ap (λ p. undo_answer array_bytes (chain_stage g.A.Codec.meaning g.B.Codec.meaning g.S.Codec.meaning p) c.args.self.now.form 0 c.singles.result c.args.settings.now.checks c.args.encoded.now (length c.args.output.now) (length c.args.work.now) (length c.args.scratch.now)) c.stages.ensures
    ∙ whole_undo _ _ _
    (chain_laws g.A.Codec.meaning g.B.Codec.meaning g.S.Codec.meaning g.met.A.Codec.lawful g.met.B.Codec.lawful g.met.S.Codec.lawful c.args.self.now.chain.stages)
    c.args.self.now.form c.args.self.now.taken _ c.args.settings.now.checks c.args.encoded.now (length c.args.output.now) (length c.args.work.now) (length c.args.scratch.now) c.singles.ensures
