use Rattle.std.proofs.Common.{arith}
use Rattle.groups.specs.Modulo.{masked_less}
use Rattle.groups.proofs.modular.ModularGroup.less.Goals as goal

pub returns : goal.returns
returns g c = masked_less g.W.Width.BYTES c.top.result g.W.Width.narrow c.top.ensures c.args.a c.args.b (omega arith)
