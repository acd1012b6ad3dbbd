use Rattle.std.proofs.Common.{◌/◌, length, arith}
use Rattle.std.proofs.lemmas.Nat.{div-add-mod'}
use Rattle.stage.specs.Elements.{elements}
use Rattle.difference.specs.Difference.{first_stays}
use Rattle.difference.proofs.Turns.{some_whole, turned_first, turned_more}
use Rattle.difference.proofs.differences.turn.Goals as goal

pub loop-e-init : goal.loop-e-init
loop-e-init g c =
    let n = (g.met.G.Group.lawful c.args.group.now).narrow in
    let h = some_whole (length c.args.array.now) _ _ c.width-w.ensures n.0 c.requires.some c.requires.whole in
    turned_first _ (g.D.Direction.after _) _ c.read-before.result c.args.array.now h.0 h.1 c.read-before.ensures.value c.read-before.ensures.bytes

pub loop-e-preserved : goal.loop-e-preserved
loop-e-preserved g c =
    let F = g.D.Direction.after (g.G.Group.group c.args.group.now) in
    let x = c.args.array.now in
    let w = c.width-w.result in
    turned_more w F (length x / w) (first_stays F (elements w (length x / w) x)) c.loop-e.e c.loop-e.before c.read.result c.step-turned.result.0 c.step-turned.result.1
    c.loop-e.array c.write.new.element c.loop-e-test.true (omega (arith, div-add-mod' (length x) w)) c.loop-e.invariant c.read.ensures.value c.step-turned.ensures c.write.ensures
