-- Products of lengths. Assumes nothing.
use Rattle.std.proofs.Common.{◌≡◌, ℕ, min, max, zero, suc, ◌*◌, ◌<◌, ◌≤◌, true, leb, List, [], ◌∷◌, ◌++◌, length, take, sym, refl, ap, ◌∙◌, mul-le-mul_right, mul_assoc, mul-le-mul_left, mul-pos, mul-zero, mul-suc, zero-mul, one-mul, mul-one, arith, take-suc}
use Rattle.std.proofs.lemmas.List.{take_at, length-append}
use Rattle.std.proofs.lemmas.List.Folds.{fold_along}
use Rattle.std.proofs.lemmas.Bool.Decides.{nat_tests}
use Rattle.std.specs.List.{list_all, fold}
use Rattle.form.specs.Shapes.{product, is_shape, count, on, volume, sound}

pub full_product : (xs : List ℕ) → list_all (leb 1) xs ≡ true → 0 < product xs
full_product [] h = omega arith
full_product (x ∷ xs) h = let i : list_all (leb 1) xs ≡ true → 0 < product xs = full_product xs in grind (arith, nat_tests, mul-pos)

product_push : (xs : List ℕ) (y : ℕ) → product (xs ++ y ∷ []) ≡ product xs * y
product_push [] y = grind arith
product_push (x ∷ xs) y = let i = product_push xs y in grind (arith, mul_assoc)

-- the product of the first lengths, axis by axis
pub product-count : (xs : List ℕ) (r : ℕ) → r ≤ length xs → product (take r xs) ≡ count (on xs) r
product-count xs zero h = refl
product-count xs (suc r) h = rw (take-suc xs r 0 (omega arith), product_push, product-count xs r (omega arith))

pub positive : (a b : ℕ) → 0 < a * b → (0 < a) × (0 < b)
positive a b h = grind (arith, zero-mul, one-mul, mul-zero)

-- a fold of products is the product
pub fold-product : (a : ℕ) (xs : List ℕ) → fold (λ n x. n * x) a xs ≡ a * product xs
fold-product a [] = sym (mul-one a)
fold-product a (x ∷ xs) = fold-product (a * x) xs ∙ mul_assoc a x (product xs)

min_step : (m b c x : ℕ) → b ≡ min c m → min (b * x) m ≡ min (c * x) m
min_step m b c zero e = omega (arith, mul-zero b, mul-zero c)
min_step m b c (suc x) e = grind (arith, mul-suc)

max_step : {A : Type 0} (v : A → ℕ) (b c : ℕ) (x : A) → b ≤ c → b * v x ≤ max c (c * v x)
max_step v b c x h = grind (arith, mul-le-mul_right)

-- where no number is 0 the product never falls
fold-rising : (a : ℕ) (xs : List ℕ) → 0 < a * product xs → fold (λ n x. max n (n * x)) a xs ≡ a * product xs
fold-rising a [] h = sym (mul-one a)
fold-rising a (x ∷ xs) h =
    let p = positive a (x * product xs) h in
    let l : a * 1 ≤ a * x = mul-le-mul_left a (positive x (product xs) p.1).0 in
    let e : max a (a * x) ≡ a * x = omega (arith, mul-one a) in
    rw e (fold-rising (a * x) xs (omega (arith, mul_assoc a x (product xs))) ∙ mul_assoc a x (product xs))

-- a product of some of the numbers is at most that of all, where none is 0
pub fold_within : {A : Type 0} (v : A → ℕ) (some : List A) (all : List ℕ) → 0 < product all → fold (λ n x. max n (n * v x)) 1 some ≤ fold (λ n x. max n (n * x)) 1 all → fold (λ n x. n * v x) 1 some ≤ product all
fold_within v some all p h =
    let rises = fold_along (λ n x. n * v x) (λ n x. max n (n * v x)) (λ b c. b ≤ c) (max_step v) 1 1 some (omega arith) in
    omega (arith, one-mul (product all), fold-rising 1 all (omega (arith, one-mul (product all))))

-- products that stay at a limit once they are past it
pub fold-saturating : (m a : ℕ) (xs : List ℕ) → a ≤ m → fold (λ n x. min (n * x) m) a xs ≡ min (a * product xs) m
fold-saturating m a xs h =
    fold_along (λ n x. min (n * x) m) (λ n x. n * x) (λ b c. b ≡ min c m) (min_step m) a a xs (omega arith) ∙ ap (λ k. min k m) (fold-product a xs)

-- what a sound form keeps
pub record Facts (lengths : List ℕ) (dims size : ℕ) : Type 0 where
  pub some : 1 ≤ dims
  pub few : dims ≤ 4
  pub full : 1 ≤ volume lengths dims size
  pub fits : volume lengths dims size ≤ 4096

pub facts : (ls : List ℕ) (d s : ℕ) → sound ls d s ≡ true → Facts ls d s
facts ls d s h = grind (arith, nat_tests)

-- a shape with other numbers after it is sound
pub shape_sound : (shape rest : List ℕ) (size : ℕ) → is_shape shape ≡ true → product shape * size ≤ 4096 → 0 < size → sound (shape ++ rest) (length shape) size ≡ true
shape_sound shape rest size s h z =
    let e = product-count (shape ++ rest) (length shape) (omega (arith, length-append shape rest)) in
    let t = take_at shape rest (length shape) refl in
    grind (arith, nat_tests, full_product, mul-pos)
