use Rattle.groups.specs.Modulo.{masked_plus}
use Rattle.groups.proofs.modular.ModularGroup.plus.Goals as goal

pub returns : goal.returns
returns g c = masked_plus g.W.Width.BYTES c.top.result g.W.Width.narrow c.top.ensures c.args.a c.args.b
