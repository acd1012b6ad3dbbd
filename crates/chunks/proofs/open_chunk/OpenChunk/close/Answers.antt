use Rattle.chunks.proofs.open_chunk.OpenChunk.close.Goals as goal

pub returns-clause-law : goal.returns-clause-law
returns-clause-law g c = λ o h law. law.cell_is
