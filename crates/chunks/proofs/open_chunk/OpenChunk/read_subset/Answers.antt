use Rattle.std.proofs.Common.{refl}
use Rattle.chunks.proofs.Carrying.{given_carried}
use Rattle.chunks.proofs.open_chunk.OpenChunk.read_subset.Goals as goal

pub returns-clause-carried : goal.returns-clause-carried
returns-clause-carried g c = given_carried _ _ _ _ _ _ _ _ _ refl refl (λ ok. refl) _ c.copy_subset.ensures.answer c.copy_subset.ensures.bytes c.copy_subset.ensures.counted
