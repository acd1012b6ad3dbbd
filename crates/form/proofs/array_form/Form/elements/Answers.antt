use Rattle.std.proofs.Common.{◌≡◌, ◌*◌, max, one-mul, ap, ◌∙◌, arith, rules}
use Rattle.std.specs.List.{fold}
use Rattle.form.specs.Shapes.{product}
use Rattle.form.proofs.Shapes.{fold-product, fold_within}
use Rattle.form.proofs.Sized.{shape_sized}
use Rattle.form.proofs.array_form.Form.elements.Goals as goal

pub product-requires-clause-fits : goal.product-requires-clause-fits
product-requires-clause-fits c = λ p s e.
    let z = shape_sized c.args.self.now c.shape.result.now c.shape.ensures.value c.shape.ensures.len in
    let k = ap product c.shape.ensures.value in
    let m = rw (e, c.iter.ensures.rest) at ((c.iter.ensures.runs p s).7 (λ n x. max n (n * x)) 1 (λ n x. omega arith)) in
    omega (arith, fold_within (λ y. y.now) p.items c.shape.result.now (omega arith) m)

pub returns : goal.returns
returns c =
    let z = shape_sized c.args.self.now c.shape.result.now c.shape.ensures.value c.shape.ensures.len in
    let e : c.product.result ≡ fold (λ n x. n * x) 1 c.shape.result.now = search rules in
    let exact = e ∙ fold-product 1 c.shape.result.now ∙ one-mul _ ∙ ap product c.shape.ensures.value in
    record { exact = exact; counted = exact ∙ z.exact }
