use Rattle.chunkctl.proofs.Called.{refused_by, form_set}
use Rattle.chunkctl.proofs.session.set_form.Goals as goal

pub returns-in_err-made-clause-answer : goal.returns-in_err-made-clause-answer
returns-in_err-made-clause-answer c =
    refused_by _ _ _ c.in_err-made.field-0.0 c.from_residual.result c.from_residual.ensures.1 c.in_err-made.ensures

pub returns-clause-answer : goal.returns-clause-answer
returns-clause-answer c =
    form_set c.args.shape.now c.args.code c.args.fill.now c.in_ok-made.made c.elements.result c.bytes.result c.in_ok-made.ensures c.elements.ensures.exact c.bytes.ensures.exact
