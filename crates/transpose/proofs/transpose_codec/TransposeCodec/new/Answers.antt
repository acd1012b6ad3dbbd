use Rattle.std.proofs.Common.{length, sym, ap, ◌∙◌}
use Rattle.std.proofs.lemmas.List.{take_at}
use Rattle.transpose.proofs.Orders.{permutes_whole}
use Rattle.transpose.proofs.transpose_codec.TransposeCodec.new.Goals as goal

pub invariant_of-result : goal.invariant_of-result
invariant_of-result c =
    let d = length c.args.order.now in
    record { permutes = permutes_whole _ c.args.order.now d (sym (take_at c.copy_from_slice.new.self _ d (ap length c.copy_from_slice.ensures.after) ∙ c.copy_from_slice.ensures.after)) (c.is_order.ensures.ordered.0 c.if-not-is_order.false) }
