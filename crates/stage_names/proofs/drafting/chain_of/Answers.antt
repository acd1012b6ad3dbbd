use Rattle.std.proofs.Common.{◌≡◌, Ok}
use Rattle.stage_names.proofs.Chains.{if_ok, fits}
use Rattle.stage_names.proofs.drafting.chain_of.Goals as goal

pub returns-clause-made : goal.returns-clause-made
returns-clause-made c = (
  c.new.result,
  Ok c.in_ok-draft.draft,
  c.new.ensures,
  c.in_ok-draft.ensures,
  fits (λ k. k.stages) (λ f. f.chain) _ c.in_ok-draft.draft c.args.form.now c.in_ok-seal.field-0 c.fit.result c.in_ok-seal.ensures c.fit.ensures (λ f h. h.0),
)

pub returns-clause-form : goal.returns-clause-form
returns-clause-form c = if_ok _ _ (λ f. f.form ≡ c.args.form.now) c.fit.result c.fit.ensures (λ f h. h.1)
