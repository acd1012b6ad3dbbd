use Rattle.stage_names.proofs.Adding.{stopped}
use Rattle.stage_names.proofs.drafting.add_stages.Goals as goal

pub returns-in_err-add_to : goal.returns-in_err-add_to
returns-in_err-add_to c =
    c.loop-name.invariant c.from_residual.result
    (stopped c.args.names.now c.loop-name.name-index c.name-item.result c.name-item.result c.loop-name.draft _ c.in_err-add_to.field-0.0 c.from_residual.result
    c.loop-name-test.true c.name-item.is c.in_err-add_to.ensures.answer c.from_residual.ensures.1)
