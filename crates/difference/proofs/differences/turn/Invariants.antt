use Rattle.stage.specs.Elements.{elements}
use Rattle.difference.specs.Difference.{first_stays}
use Rattle.difference.proofs.Turns.{Turned}
use Rattle.difference.proofs.differences.turn.Given as goal

abbrev pub invariant-loop-e : goal.invariant-loop-e
invariant-loop-e g l =
    let F = g.D.Direction.after (g.G.Group.group l.group) in
    Turned l.w F l.count (first_stays F (elements l.w l.count l.initial.array)) l.e l.before l.array
