use Rattle.std.proofs.Common.{◌≡◌, ◌+◌, ◌*◌, ◌≤◌, length, ap, arith, rules}
use Rattle.stage.specs.Arrays.{element_count, array_bytes}
use Rattle.transpose.specs.Gatherings.{seat_in}
use Rattle.form.proofs.Sized.{form_facts}
use Rattle.transpose.proofs.Gathering.{seat_inside, element_next}
use Rattle.transpose.proofs.gather.Gathering.gather.Goals as goal

pub overflow_mul-from : goal.overflow_mul-from
overflow_mul-from c =
    let i = seat_inside c.args.self.now c.args.source.now c.requires.whole c.size-size.ensures c.seat.ensures (omega arith) in
    let f = (form_facts c.args.self.now.of).fits in
    let k : c.seat.result * c.size-size.result ≤ 4096 = omega arith in
    search rules

pub overflow_add-from : goal.overflow_add-from
overflow_add-from c =
    let i = seat_inside c.args.self.now c.args.source.now c.requires.whole c.size-size.ensures c.seat.ensures (omega arith) in
    let f = (form_facts c.args.self.now.of).fits in
    let k : c.seat.result * c.size-size.result + c.size-size.result ≤ 4096 = omega arith in
    search rules

pub slice_bounds-copy_from_slice-end-in-loop-e : goal.slice_bounds-copy_from_slice-end-in-loop-e
slice_bounds-copy_from_slice-end-in-loop-e c =
    let i = seat_inside c.args.self.now c.args.source.now c.requires.whole c.size-size.ensures c.seat.ensures (omega arith) in
    let k : c.seat.result * c.size-size.result + c.size-size.result ≤ length c.args.source.now = omega arith in
    search rules

pub loop-e-preserved : goal.loop-e-preserved
loop-e-preserved c =
    let g = c.args.self.now in
    let s = c.size-size.result in
    let m = c.seat.result in
    let i = seat_inside g c.args.source.now c.requires.whole c.size-size.ensures c.seat.ensures (omega arith) in
    let b : element_count g.of * s ≡ array_bytes g.of = ap (λ v. element_count g.of * v) c.size-size.ensures in
    element_next (seat_in g) s (element_count g.of) c.loop-e.e m _ _ c.args.source.now c.loop-e.target c.copy_from_slice.new.self (omega arith) c.seat.ensures (omega arith) (omega arith) (omega arith)
    c.copy_from_slice.ensures.after c.loop-e.invariant
