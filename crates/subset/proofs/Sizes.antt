-- How large a subset is.
use Rattle.std.proofs.Common.{◌≡◌, ℕ, max, zero, suc, ◌+◌, ◌*◌, ◌<◌, ◌≤◌, true, leb, List, [], ◌∷◌, length, get_or, refl, ap, ◌∙◌, arith, one-mul, mul-le-mul}
use Rattle.std.proofs.lemmas.Bool.{and_parts, and_from, leb-true, le-leb, false≢true}
use Rattle.std.specs.List.{fold}
use Rattle.form.specs.declared.array_form.Form.{Form}
use Rattle.form.specs.Forms.{shape_of, element_size}
use Rattle.form.proofs.Shapes.{fold-product}
use Rattle.form.proofs.Sized.{form_facts, shape_sized}
use Rattle.form.specs.Shapes.{product}
use Rattle.subset.specs.Subsets.{inside}
use Rattle.subset.specs.Laws.{Tested}

-- a fact of all subsets is one of none on no axis and of one more axis
pub by_axis : (P : List ℕ → List ℕ → List ℕ → Type 0) → P [] [] []
    → ((n s l : ℕ) (ns ss ls : List ℕ) → s + l ≤ n → inside ns ss ls ≡ true → P ns ss ls → P (n ∷ ns) (s ∷ ss) (l ∷ ls))
    → (array start shape : List ℕ) → inside array start shape ≡ true → P array start shape
by_axis P none more [] [] [] h = none
by_axis P none more [] [] (l ∷ ls) h = absurd (false≢true h)
by_axis P none more [] (s ∷ ss) ls h = absurd (false≢true h)
by_axis P none more (n ∷ ns) [] ls h = absurd (false≢true h)
by_axis P none more (n ∷ ns) (s ∷ ss) [] h = absurd (false≢true h)
by_axis P none more (n ∷ ns) (s ∷ ss) (l ∷ ls) h =
    let p = and_parts (leb (s + l) n) (inside ns ss ls) h in more n s l ns ss ls (leb-true (s + l) n p.0) p.1 (by_axis P none more ns ss ls p.1)

-- as many starts and lengths as axes
pub inside_lengths : (array start shape : List ℕ) → inside array start shape ≡ true → (length start ≡ length array) × (length shape ≡ length array)
inside_lengths = by_axis (λ ns ss ls. (length ss ≡ length ns) × (length ls ≡ length ns)) (refl, refl) (λ n s l ns ss ls f i h. (omega (arith, h.0), omega (arith, h.1)))

-- the subset has no more elements than the array
pub product_few : (array start shape : List ℕ) → inside array start shape ≡ true → product shape ≤ product array
product_few = by_axis (λ ns ss ls. product ls ≤ product ns) (omega arith) (λ n s l ns ss ls f i h. mul-le-mul (omega arith) h)

pub fold_product : (xs : List ℕ) → fold (λ n x. n * x) 1 xs ≡ product xs
fold_product xs = fold-product 1 xs ∙ one-mul (product xs)

-- and no more bytes
pub few : (array start shape : List ℕ) (size : ℕ) → inside array start shape ≡ true → product shape * size ≤ product array * size
few array start shape size h = mul-le-mul (product_few array start shape h) (omega arith)

-- so these are counted
pub fold_few : (f : Form) (array start shape : List ℕ) → array ≡ shape_of f → length array ≡ f.dims → inside array start shape ≡ true → fold (λ n x. n * x) 1 shape * element_size f ≤ 4096
fold_few f array start shape e d h =
    let z = shape_sized f array e d in
    let k = (form_facts f).fits in
    let u = ap (λ v. v * element_size f) (ap product e ∙ z.exact) in
    let c = ap (λ v. v * element_size f) (fold_product shape) in
    omega (arith, few array start shape (element_size f) h, k, u, c)

-- nor the first axes of it
pub folds_few : (array start shape : List ℕ) → inside array start shape ≡ true → (a b : ℕ) → a ≤ b
    → fold (λ n x. max n (n * x)) a shape ≤ fold (λ n x. max n (n * x)) b array
folds_few = by_axis (λ ns ss ls. (a b : ℕ) → a ≤ b → fold (λ n x. max n (n * x)) a ls ≤ fold (λ n x. max n (n * x)) b ns)
    (λ a b e. e)
    (λ n s l ns ss ls f i h a b e. let m = mul-le-mul {n₁ = a} {m₁ = l} {n₂ = b} {m₂ = n} e (omega arith) in h (max a (a * l)) (max b (b * n)) (omega arith))

-- the test, axis by axis
abbrev Fits : List ℕ → List ℕ → List ℕ → Type 0
Fits array start shape =
    (length start ≡ length array) × (length shape ≡ length array) × ((a : ℕ) → a < length array → get_or start a 0 + get_or shape a 0 ≤ get_or array a 0)

fits_at : (n s l : ℕ) (ns ss ls : List ℕ) (a : ℕ) → s + l ≤ n → a < suc (length ns) → Fits ns ss ls → get_or (s ∷ ss) a 0 + get_or (l ∷ ls) a 0 ≤ get_or (n ∷ ns) a 0
fits_at n s l ns ss ls zero f z h = f
fits_at n s l ns ss ls (suc a) f z h = h.2 a (omega arith)

fits : (array start shape : List ℕ) → inside array start shape ≡ true → Fits array start shape
fits = by_axis Fits (refl, refl, λ a z. absurd (omega arith)) (λ n s l ns ss ls f i h. (omega (arith, h.0), omega (arith, h.1), λ a z. fits_at n s l ns ss ls a f z h))

from_fits : (array start shape : List ℕ) → Fits array start shape → inside array start shape ≡ true
from_fits [] [] [] h = refl
from_fits [] [] (l ∷ ls) h = absurd (omega (arith, h.1))
from_fits [] (s ∷ ss) ls h = absurd (omega (arith, h.0))
from_fits (n ∷ ns) [] ls h = absurd (omega (arith, h.0))
from_fits (n ∷ ns) (s ∷ ss) [] h = absurd (omega (arith, h.1))
from_fits (n ∷ ns) (s ∷ ss) (l ∷ ls) h =
    and_from _ _ (le-leb _ _ (h.2 0 (omega arith))) (from_fits ns ss ls (omega (arith, h.0), omega (arith, h.1), λ a z. h.2 (suc a) (omega arith)))

pub tested : Tested
tested array start shape = (fits array start shape, from_fits array start shape)
