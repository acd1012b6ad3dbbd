use Rattle.std.proofs.Common.{◌<◌, sym, ◌∙◌, subst}
use Rattle.form.specs.Shapes.{on}
use Rattle.axes.proofs.Seats.{seat_valid}
use Rattle.axes.proofs.Numbers.{offset_same}
use Rattle.transpose.proofs.Gathering.{same_elements}
use Rattle.transpose.proofs.gather.Gathering.seat.Goals as goal

pub offset-requires : goal.offset-requires
offset-requires c =
    let g = c.args.self.now in
    λ a l.
    subst (λ v. v < on g.of.lengths a) (sym (c.index.ensures (on g.order.order a) (g.follows a l).0))
    (seat_valid (on g.of.lengths) (on g.by.lengths) (on g.order.order) g.of.dims c.args.element a g.follows (subst (λ v. c.args.element < v) (sym (same_elements g)) c.requires) l)

pub returns : goal.returns
returns c =
    let g = c.args.self.now in
    c.offset.ensures ∙ offset_same (on g.of.lengths) _ _ g.of.dims (λ a l. c.index.ensures (on g.order.order a) (g.follows a l).0)
