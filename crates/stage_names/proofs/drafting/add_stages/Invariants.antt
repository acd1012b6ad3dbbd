use Rattle.std.proofs.Common.{drop, map, Result}
use Rattle.form.specs.declared.fault.Fault.{Fault}
use Rattle.chain_draft.specs.declared.ChainDraft.{ChainDraft}
use Rattle.stage_names.specs.Names.{said_stage}
use Rattle.stage_names.specs.Drafting.{AddedAll}
use Rattle.stage_names.proofs.drafting.add_stages.Given as goal

-- what adding the rest gives is what adding all gives
abbrev pub invariant-loop-name : goal.invariant-loop-name
invariant-loop-name l =
    (r : Result ChainDraft Fault) → AddedAll l.draft (map said_stage (drop l.name-index l.names)) r → AddedAll l.initial.draft (map said_stage l.names) r
