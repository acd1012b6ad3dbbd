use Rattle.std.proofs.Common.{sym, subst}
use Rattle.form.specs.Answers.{Answers}
use Rattle.stage_names.specs.Names.{said_array, SaidTranspose}
use Rattle.stage_names.specs.Drafting.{add_refusal, Added}
use Rattle.stage_names.proofs.name.ArrayName.add_to.Goals as goal

pub returns-in-Transpose-clause-answer : goal.returns-in-Transpose-clause-answer
returns-in-Transpose-clause-answer c =
    subst (λ n. Answers (add_refusal c.args.draft.now (said_array n)) (λ _. Added (said_array n) c.args.draft.now c.add_transpose.new.self) c.add_transpose.result)
    (sym c.in-Transpose.is)
    (subst (λ order. Answers (add_refusal c.args.draft.now (SaidTranspose order)) (λ _. Added (SaidTranspose order) c.args.draft.now c.add_transpose.new.self) c.add_transpose.result)
    c.as_slice.ensures.value c.add_transpose.ensures.answer)
