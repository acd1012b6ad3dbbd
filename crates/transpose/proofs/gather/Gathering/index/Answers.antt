use Rattle.std.proofs.Common.{◌<◌, sym, refl, ◌∙◌, subst, arith}
use Rattle.std.proofs.lemmas.List.{length-set}
use Rattle.axes.proofs.Loops.{peeled_more}
use Rattle.transpose.proofs.Gathering.{same_elements, few_axes}
use Rattle.transpose.proofs.gather.Gathering.index.Goals as goal

pub loop-a-init : goal.loop-a-init
loop-a-init c = (
  refl,
  record { within = subst (λ v. c.args.element < v) (sym (same_elements c.args.self.now)) c.requires; done = λ b l m. absurd (omega arith); left = λ b l. refl },
)

pub loop-a-preserved : goal.loop-a-preserved
loop-a-preserved c = (
  length-set c.loop-a.at _ _ ∙ c.loop-a.invariant.0,
  peeled_more c.loop-a.at (few_axes c.args.self.now) c.loop-a.invariant.0 c.loop-a-test.true c.loop-a.auto.a c.loop-a.invariant.1,
)
