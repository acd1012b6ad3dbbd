use Rattle.std.proofs.Common.{◌+◌, ◌∙◌}
use Rattle.chunkctl.proofs.Listing.{size_more}
use Rattle.chunkctl.proofs.session.lengths_by.Goals as goal

pub loop-single-preserved : goal.loop-single-preserved
loop-single-preserved g c = (
  c.loop-single.invariant.0,
  c.in_ok-push-2.ensures.items
      ∙ size_more (g.C.Codec.meaning c.args.codec.now) c.args.decoded.now (c.loop-single.single + 1) c.in_ok-size-2.field-0 c.loop-single.lengths.items c.loop-single.invariant.1 c.in_ok-size-2.ensures,
)
