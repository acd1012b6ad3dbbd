use Rattle.text.proofs.NumberLaws.{reads_back}
use Rattle.text.proofs.number.number_stands.Goals as goal

pub returns : goal.returns
returns c = reads_back
