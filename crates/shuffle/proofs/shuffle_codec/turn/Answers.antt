use Rattle.std.proofs.Common.{arith}
use Rattle.std.proofs.lemmas.Grind.{common_steps}
use Rattle.shuffle.proofs.Placed.{placed_more, placed_all}
use Rattle.shuffle.proofs.shuffle_codec.turn.Goals as goal

pub loop-j-preserved : goal.loop-j-preserved
loop-j-preserved c = placed_more _ _ _ _ _ _ _ c.loop-i-test.true (grind (arith, common_steps)) (omega arith) (grind (arith, common_steps)) c.loop-j.invariant

pub returns : goal.returns
returns c = placed_all _ _ _ _ _ (omega arith) (omega arith) c.loop-i.invariant
