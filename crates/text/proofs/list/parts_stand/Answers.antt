use Rattle.text.proofs.Parts.{parts_join, parts_back}
use Rattle.text.proofs.list.parts_stand.Goals as goal

pub returns : goal.returns
returns c = record { join = parts_join; back = parts_back }
