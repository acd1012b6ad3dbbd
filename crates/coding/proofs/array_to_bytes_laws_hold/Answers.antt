use Rattle.stage.proofs.Passing.{unfailing}
use Rattle.coding.proofs.array_to_bytes_laws_hold.Goals as goal

pub returns : goal.returns
returns g c = record { kept = g.met.C.ArrayToBytesCodec.keeps c.args.codec.now; unfailing = unfailing (g.C.Codec.meaning c.args.codec.now) (g.met.C.ArrayToBytesCodec.keeps c.args.codec.now).passes_all }
