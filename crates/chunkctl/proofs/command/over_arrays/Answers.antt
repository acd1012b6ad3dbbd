use Rattle.std.proofs.Common.{rules, tests}
use Rattle.std.proofs.lemmas.Iterator.{YieldsList-from_slice}
use Rattle.std.proofs.lemmas.Iterator.Search.{all_from_yields_List}
use Rattle.chunkctl.specs.Runs.{is_over_arrays}
use Rattle.chunkctl.proofs.command.over_arrays.Goals as goal

pub returns : goal.returns
returns c =
    all_from_yields_List is_over_arrays _ _ c.all.result c.all.ensures.ran (YieldsList-from_slice c.args.stages.now cc) (λ x b q k. search (rules, tests))
