use Rattle.std.proofs.Common.{map, ap, ◌∙◌}
use Rattle.chunkctl.proofs.Listing.{capability_more}
use Rattle.chunkctl.proofs.session.singles_by.Goals as goal

pub loop-single-preserved : goal.loop-single-preserved
loop-single-preserved g c =
    ap (map (λ s. s.0)) c.in_ok-push.ensures.items
    ∙ capability_more (λ s. s.0) (g.C.Codec.meaning c.args.codec.now).singles c.loop-single.single c.loop-single.found.items (record { 0 = c.in_ok-capability.field-0 }) c.loop-single.invariant c.in_ok-capability.ensures
