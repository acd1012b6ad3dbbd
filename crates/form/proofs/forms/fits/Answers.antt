use Rattle.std.proofs.Common.{◌≡◌, ◌*◌, ◌-◌, ◌^◌, min, mul_comm, arith, rules}
use Rattle.std.proofs.lemmas.Bool.Decides.{nat_tests}
use Rattle.std.specs.List.{fold}
use Rattle.form.specs.Shapes.{product}
use Rattle.form.proofs.Shapes.{fold-saturating}
use Rattle.form.proofs.forms.fits.Goals as goal

pub returns : goal.returns
returns c =
    let e : c.fold-bytes.result ≡ fold (λ a x. min (a * x) (2 ^ 64 - 1)) c.args.size c.args.shape.now = search rules in
    let s = fold-saturating (2 ^ 64 - 1) c.args.size c.args.shape.now (omega arith) in
    let m = mul_comm c.args.size (product c.args.shape.now) in
    grind (arith, nat_tests)
