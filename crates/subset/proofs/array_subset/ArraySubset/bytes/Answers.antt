use Rattle.std.proofs.Common.{◌≡◌, ◌*◌, ◌≤◌, max, sym, ap, ◌∙◌, arith, rules}
use Rattle.std.specs.List.{fold}
use Rattle.form.specs.Shapes.{product}
use Rattle.form.proofs.Shapes.{fold_within}
use Rattle.form.proofs.Sized.{shape_sized}
use Rattle.subset.proofs.Sizes.{fold_product, fold_few, folds_few}
use Rattle.subset.proofs.array_subset.ArraySubset.bytes.Goals as goal

pub product-requires-clause-fits : goal.product-requires-clause-fits
product-requires-clause-fits c = λ p s e.
    let z = shape_sized c.args.form.now c.shape.result.now c.shape.ensures.value c.shape.ensures.len in
    let k = ap product c.shape.ensures.value in
    let m = rw (e, c.iter.ensures.rest) at ((c.iter.ensures.runs p s).7 (λ n x. max n (n * x)) 1 (λ n x. omega arith)) in
    let f = folds_few c.shape.result.now c.args.self.now.start.now c.args.self.now.shape.now (sym c.inside.ensures ∙ c.if-not-inside.false) 1 1 (omega arith) in
    omega (arith, fold_within (λ y. y.now) p.items c.shape.result.now (omega arith) (omega (arith, m, f)))

pub overflow_mul-result : goal.overflow_mul-result
overflow_mul-result c =
    let e : c.product.result ≡ fold (λ n x. n * x) 1 c.args.self.now.shape.now = search rules in
    let f = fold_few c.args.form.now c.shape.result.now c.args.self.now.start.now c.args.self.now.shape.now c.shape.ensures.value c.shape.ensures.len (sym c.inside.ensures ∙ c.if-not-inside.false) in
    let k : c.product.result * c.size.result ≤ 4096 = grind arith in
    search rules

pub returns : goal.returns
returns c =
    let e : c.product.result ≡ fold (λ n x. n * x) 1 c.args.self.now.shape.now = search rules in
    let p = e ∙ fold_product c.args.self.now.shape.now in
    search rules
