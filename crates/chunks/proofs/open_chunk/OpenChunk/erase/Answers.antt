use Rattle.std.proofs.Common.{refl, ap}
use Rattle.std.proofs.lemmas.Result.{on_err_weaker}
use Rattle.chunks.specs.Seen.{seen}
use Rattle.chunks.proofs.Carrying.{finished_carried}
use Rattle.chunks.proofs.open_chunk.OpenChunk.erase.Goals as goal

pub returns-clause-carried : goal.returns-clause-carried
returns-clause-carried g c = finished_carried _ _ _ _ _ refl refl c.make_absent.result c.make_absent.ensures.answer c.make_absent.ensures.changed c.make_absent.ensures.returns (on_err_weaker c.make_absent.result (ap seen) c.make_absent.ensures.same)
