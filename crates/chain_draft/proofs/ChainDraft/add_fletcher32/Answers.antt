use Rattle.std.proofs.Common.{refl}
use Rattle.chain_draft.proofs.Adding.{added}
use Rattle.chain_draft.proofs.ChainDraft.add_fletcher32.Goals as goal

pub returns-clause-answer : goal.returns-clause-answer
returns-clause-answer c =
    added _ _ _ (λ _. Unit {0}) _ c.new-codec.result c.in_ok-byte_room.ensures tt (λ _. ((c.fletcher32.result, c.fletcher32.ensures.value, c.push.ensures.items), refl, refl))
