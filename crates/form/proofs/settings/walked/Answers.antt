use Rattle.std.proofs.Common.{Ok, sym, ap, ◌∙◌, rules, tests}
use Rattle.std.proofs.lemmas.Iterator.{YieldsList-from_slice}
use Rattle.std.proofs.lemmas.Iterator.Search.{all_from_yields_List}
use Rattle.form.specs.Refusals.{only_if}
use Rattle.form.proofs.settings.walked.Goals as goal

pub returns-then-all : goal.returns-then-all
returns-then-all c =
    let e = all_from_yields_List (λ step. step) _ _ c.all.result c.all.ensures.ran (YieldsList-from_slice c.args.steps.now cc) (λ x b q k. search (rules, tests)) in
    ap (λ b. only_if b 13 (Ok tt)) (sym c.if-all.true ∙ e)
