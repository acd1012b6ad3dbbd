use Rattle.std.proofs.Common.{refl}
use Rattle.chain_draft.proofs.Adding.{added}
use Rattle.chain_draft.proofs.ChainDraft.add_difference.Goals as goal

pub returns-clause-answer : goal.returns-clause-answer
returns-clause-answer c =
    added _ _ _ (λ _. Unit {0}) _ c.new-codec.result c.in_ok-array_room.ensures tt (λ _. ((c.difference.result, c.difference.ensures.value, c.push.ensures.items), refl, refl))
