use Rattle.std.proofs.Common.{refl}
use Rattle.chain_draft.proofs.Adding.{added}
use Rattle.chain_draft.proofs.ChainDraft.add_transpose.Goals as goal

pub returns-clause-answer : goal.returns-clause-answer
returns-clause-answer c =
    added _ _ _ _ _ c.in_ok-codec.codec c.in_ok-array_room.ensures c.in_ok-codec.ensures.answer (λ m. ((c.transpose.result, (c.in_ok-codec.codec, m.0, m.1, c.transpose.ensures.value), c.push.ensures.items), refl, refl))
