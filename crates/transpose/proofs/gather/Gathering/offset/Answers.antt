use Rattle.std.proofs.Common.{◌*◌, ◌+◌, ◌<◌, get_or, sym, ap, ◌∙◌, arith, rules}
use Rattle.std.proofs.lemmas.Slice.Zip.{zip_turn}
use Rattle.std.proofs.lemmas.List.{length_push}
use Rattle.form.specs.Shapes.{on}
use Rattle.axes.specs.Axes.{offset}
use Rattle.transpose.proofs.Gathering.{offset_turn}
use Rattle.transpose.proofs.gather.Gathering.offset.Goals as goal

pub overflow_mul-n : goal.overflow_mul-n
overflow_mul-n c =
    let s = offset_turn c.args.self.now c.args.at c.requires c.order.ensures.value c.order.ensures.len c.loop-length.invariant
    (zip_turn _ _ c.loop-length.yielded c.into_iter-length-iterator.result c.loop-length.length-iterator c.next.new.self _ (cc) (cc) c.loop-length.yielded_by _ c.in-Some.is c.next.ensures.steps) in
    let h : c.loop-length.n * c.in-Some.length.now + get_or c.args.at c.in-Some.axis.now 0 < 4096 = s.small in
    let k : c.loop-length.n * c.in-Some.length.now < 4096 = omega arith in
    search rules

pub overflow_add-n : goal.overflow_add-n
overflow_add-n c =
    let s = offset_turn c.args.self.now c.args.at c.requires c.order.ensures.value c.order.ensures.len c.loop-length.invariant
    (zip_turn _ _ c.loop-length.yielded c.into_iter-length-iterator.result c.loop-length.length-iterator c.next.new.self _ (cc) (cc) c.loop-length.yielded_by _ c.in-Some.is c.next.ensures.steps) in
    let h : c.loop-length.n * c.in-Some.length.now + get_or c.args.at c.in-Some.axis.now 0 < 4096 = s.small in
    search rules

pub bounds-at-axis : goal.bounds-at-axis
bounds-at-axis c =
    let s = offset_turn c.args.self.now c.args.at c.requires c.order.ensures.value c.order.ensures.len c.loop-length.invariant
    (zip_turn _ _ c.loop-length.yielded c.into_iter-length-iterator.result c.loop-length.length-iterator c.next.new.self _ (cc) (cc) c.loop-length.yielded_by _ c.in-Some.is c.next.ensures.steps) in
    s.inside

pub loop-length-preserved : goal.loop-length-preserved
loop-length-preserved c =
    let s = offset_turn c.args.self.now c.args.at c.requires c.order.ensures.value c.order.ensures.len c.loop-length.invariant
    (zip_turn _ _ c.loop-length.yielded c.into_iter-length-iterator.result c.loop-length.length-iterator c.next.new.self _ (cc) (cc) c.loop-length.yielded_by _ c.in-Some.is c.next.ensures.steps) in
    s.more ∙ ap (offset (on c.args.self.now.of.lengths) (λ a. on c.args.at (on c.args.self.now.order.order a))) (sym (length_push c.loop-length.yielded _))
