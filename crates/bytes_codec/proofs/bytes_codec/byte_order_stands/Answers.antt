use Rattle.bytes_codec.specs.Laws as laws
use Rattle.bytes_codec.proofs.bytes_codec.byte_order_stands.Goals as goal

pub returns : goal.returns
returns c = record { writes = laws.writes; reads = laws.reads; back = laws.back }
