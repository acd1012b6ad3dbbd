use Rattle.transpose.specs.Transposed as transposed
use Rattle.transpose.proofs.transpose_codec.transpose_stands.Goals as goal

pub returns : goal.returns
returns c = record { turns = transposed.turns; goes = transposed.goes; comes = transposed.comes }
