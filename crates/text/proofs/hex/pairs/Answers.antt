use Rattle.std.proofs.Common.{◌≤◌, length, vec_items, refl, rules}
use Rattle.std.proofs.lemmas.List.{take_rest}
use Rattle.text.proofs.HexLaws.{read_more}
use Rattle.text.proofs.hex.pairs.Goals as goal

pub loop-left-preserved : goal.loop-left-preserved
loop-left-preserved c =
    let two : 2 ≤ length c.loop-left.left.now = search rules in
    let more = read_more c.args.word.now (vec_items c.loop-left.bytes) c.loop-left.left.now _ _ _ c.in-Some.b two (take_rest c.loop-left.left.now 2) refl refl c.in-Some.ensures c.loop-left.invariant in
    simp c.in_ok-push.ensures.items more
