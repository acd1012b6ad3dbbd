use Rattle.std.proofs.Common.{refl}
use Rattle.chunks.proofs.Carrying.{given_carried}
use Rattle.chunks.proofs.open_chunk.OpenChunk.read_range.Goals as goal

pub returns-clause-carried : goal.returns-clause-carried
returns-clause-carried g c = given_carried _ _ _ _ _ _ _ _ _ refl refl (λ ok. refl) _ c.copy_range.ensures.answer c.copy_range.ensures.bytes c.copy_range.ensures.counted
