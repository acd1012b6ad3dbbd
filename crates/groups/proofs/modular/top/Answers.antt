use Rattle.std.proofs.Common.{refl}
use Rattle.groups.specs.Modulo.{top_is}
use Rattle.groups.proofs.modular.top.Goals as goal

pub returns : goal.returns
returns g c = top_is g.W.Width.BYTES c.BYTES.result _ g.W.Width.narrow c.BYTES.ensures refl
