-- What a form's soundness gives. Assumes nothing.
use Rattle.std.proofs.Common.{◌≡◌, ℕ, ◌<◌, ◌≤◌, List, length, ap, mul-le-mul_left, mul-one, arith}
use Rattle.std.proofs.lemmas.List.{length-take}
use Rattle.form.specs.declared.array_form.Form.{Form}
use Rattle.form.specs.Shapes.{product, count, on}
use Rattle.form.specs.Forms.{shape_of, element_size}
use Rattle.form.proofs.Shapes.{Facts, facts, positive, product-count}

pub form_facts : (f : Form) → Facts f.lengths f.dims (element_size f)
form_facts f = facts f.lengths f.dims (element_size f) f.ok

-- how many elements there are
pub elements_few : (f : Form) → (1 ≤ count (on f.lengths) f.dims) × (count (on f.lengths) f.dims ≤ 4096)
elements_few f =
    let k = form_facts f in
    let p = positive (count (on f.lengths) f.dims) (element_size f) k.full in
    (p.0, omega (arith, k.fits, mul-le-mul_left (count (on f.lengths) f.dims) p.1, mul-one (count (on f.lengths) f.dims)))

-- the number of elements
pub record Sized (f : Form) : Type 0 where
  pub exact : product (shape_of f) ≡ count (on f.lengths) f.dims
  pub some : 0 < product (shape_of f)
  pub few : product (shape_of f) ≤ 4096

-- where a list is known to be the form's whole shape
pub shape_sized : (f : Form) (xs : List ℕ) → xs ≡ shape_of f → length xs ≡ f.dims → Sized f
shape_sized f xs e h =
    let k = form_facts f in
    let n = product-count f.lengths f.dims (omega (arith, length-take f.dims f.lengths, ap length e)) in
    grind (arith, positive, mul-le-mul_left)
