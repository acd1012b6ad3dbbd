use Rattle.std.proofs.Common.{◌/◌, length, arith}
use Rattle.std.proofs.lemmas.Nat.{div-add-mod'}
use Rattle.bytes_codec.specs.ByteOrder.{swapped}
use Rattle.bytes_codec.proofs.Swapping.{swapped_next}
use Rattle.bytes_codec.proofs.bytes_codec.swap.Goals as goal

pub loop-e-preserved : goal.loop-e-preserved
loop-e-preserved c =
    let w = c.args.size in
    let x = c.args.array.now in
    let n = length x / w in
    swapped_next w n c.loop-e.e (swapped w n x) c.loop-e.array c.reverse.new.self c.loop-e-test.true (omega (arith, div-add-mod' (length x) w)) c.loop-e.invariant c.reverse.ensures.after
