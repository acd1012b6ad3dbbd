use Rattle.chunks.proofs.Carrying.{law_at_opening, shut_opening}
use Rattle.chunks.proofs.open_chunk.OpenChunk.open.Goals as goal

pub returns-in-Err-clause-opened : goal.returns-in-Err-clause-opened
returns-in-Err-clause-opened g c = shut_opening _ _ _ _ c.in-Err.e c.in-Err.ensures

pub returns-clause-law : goal.returns-clause-law
returns-clause-law g c = law_at_opening _ c.kept_of-cache.ensures
