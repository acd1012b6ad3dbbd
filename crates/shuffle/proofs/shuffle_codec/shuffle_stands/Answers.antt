use Rattle.shuffle.specs.Turns as turns
use Rattle.shuffle.proofs.shuffle_codec.shuffle_stands.Goals as goal

pub returns : goal.returns
returns c = record { goes = turns.goes; back = turns.back }
