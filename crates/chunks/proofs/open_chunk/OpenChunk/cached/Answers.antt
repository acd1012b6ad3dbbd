use Rattle.chunks.proofs.Carrying.{cached_carried}
use Rattle.chunks.proofs.open_chunk.OpenChunk.cached.Goals as goal

pub returns-clause-carried : goal.returns-clause-carried
returns-clause-carried g c = cached_carried _ _ _ _ _ c.copy_cached.ensures.sound c.copy_cached.ensures.answer c.copy_cached.ensures.bytes
