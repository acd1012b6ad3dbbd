use Rattle.subset.proofs.Sizes.{tested}
use Rattle.subset.proofs.Elements.{lawful, worked}
use Rattle.subset.proofs.array_subset.subsets_hold.Goals as goal

pub returns : goal.returns
returns c = record { tested = tested; laws = lawful; figures = worked }
