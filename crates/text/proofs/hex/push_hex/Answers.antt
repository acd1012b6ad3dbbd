use Rattle.std.proofs.Common.{vec_items, rules}
use Rattle.text.proofs.HexLaws.{write_more, write_all}
use Rattle.text.proofs.hex.push_hex.Goals as goal

pub loop-b-preserved : goal.loop-b-preserved
loop-b-preserved c =
    let more = write_more (vec_items c.reserve.new.self) (vec_items c.loop-b.out) c.args.bytes.now c.loop-b.b-index c.digit.result c.digit-in-loop-b.result c.loop-b-test.true c.digit.ensures c.digit-in-loop-b.ensures c.loop-b.invariant.0 in
    (simp (c.push_reserved-in-loop-b.ensures.items, c.push_reserved.ensures.items) more, search rules)

pub returns : goal.returns
returns c =
    let all = write_all (vec_items c.reserve.new.self) (vec_items c.loop-b.out) c.args.bytes.now c.loop-b.b-index c.loop-b-test.false (search rules) c.loop-b.invariant.0 in
    let kept = c.reserve.ensures.items in
    cc
