use Rattle.std.proofs.lemmas.List.{take_rest}
use Rattle.fletcher32.proofs.Kept.{two_more}
use Rattle.fletcher32.proofs.fletcher32_codec.h5_checksum_fletcher32.Goals as goal

pub loop-left-preserved : goal.loop-left-preserved
loop-left-preserved c =
    two_more c.args.bytes.now _ _ _ _ _ c.add-sums.result.small_s c.add-sums.result.small_t c.add-sums.ensures.sum c.add-sums.ensures.sums
    c.loop-left.left.now _ c.in-len2-up.len_at_least (take_rest c.loop-left.left.now 2) c.from_be_bytes.ensures c.loop-left.invariant
