use Rattle.std.proofs.Common.{Some, sym, ap, ◌∙◌, subst}
use Rattle.stage.specs.Arrays.{array_bytes}
use Rattle.chunkctl.specs.Carried.{Decoding, UndoesBy, Undoes}
use Rattle.chain_draft.specs.Seal.{sealed_stage}
use Rattle.chunkctl.proofs.session.undo.Goals as goal

pub returns-in_ok-form-in-Chain-clause-answer : goal.returns-in_ok-form-in-Chain-clause-answer
returns-in_ok-form-in-Chain-clause-answer c =
    let chain = c.in-Chain.chain in
    let old = c.args.buffers.now in
    let new = c.undo_by-in-Chain.new.buffers in
    let result = c.undo_by-in-Chain.result in
    let there = c.in_ok-codec.ensures ∙ ap Some c.in-Chain.is in
    let stages = c.stages.ensures ∙ ap (λ k. k.stages) c.chain.ensures in
    subst (λ s. Undoes s c.args.form.now c.args.undo.now old new result) (sym there)
    (subst (λ d. Decoding d (λ f. UndoesBy array_bytes (sealed_stage chain.chain.stages) f c.args.undo.now old new) result) c.in_ok-form-in-Chain.ensures
    (subst (λ p. UndoesBy array_bytes (sealed_stage p) c.in_ok-form-in-Chain.form c.args.undo.now old new result) stages c.undo_by-in-Chain.ensures.answer))
