use Rattle.std.proofs.Common.{refl, ap}
use Rattle.std.proofs.lemmas.Result.{on_err_weaker}
use Rattle.chunks.specs.Seen.{seen}
use Rattle.chunks.proofs.Carrying.{finished_carried}
use Rattle.chunks.proofs.open_chunk.OpenChunk.write_subset.Goals as goal

pub returns-clause-carried : goal.returns-clause-carried
returns-clause-carried g c = finished_carried _ _ _ _ _ refl refl c.overwrite.result c.overwrite.ensures.answer c.overwrite.ensures.changed c.overwrite.ensures.returns (on_err_weaker c.overwrite.result (ap seen) c.overwrite.ensures.same)
