use Rattle.difference.specs.Laws as laws
use Rattle.difference.proofs.difference_codec.difference_stands.Goals as goal

pub returns : goal.returns
returns c = record { differs = laws.differs; adds = laws.adds; recodes = laws.recodes }
