use Rattle.text.proofs.HexLaws.{reads_back, only_printed}
use Rattle.text.proofs.hex.hex_stands.Goals as goal

pub returns : goal.returns
returns c = record { back = reads_back; only = only_printed }
