-- How many bytes a subset and an array with one written have.
use Rattle.std.proofs.Common.{◌≡◌, ℕ, ◌+◌, ◌*◌, ◌<◌, ◌≤◌, true, List, ◌∷◌, length, sym, ◌∙◌, arith, mul_assoc}
use Rattle.form.specs.Shapes.{product}
use Rattle.subset.specs.Subsets.{inside, slab, subset_of, put_subset}
use Rattle.subset.proofs.Sizes.{by_axis}
use Rattle.subset.proofs.Joined.{slab_inside, row_inside, length_slab, joined_length, length_over}

-- slab k of an array
pub slab_of : (n : ℕ) (ns : List ℕ) (size k : ℕ) (x : List ℕ) → k < n → length x ≡ product (n ∷ ns) * size → length (slab (product ns * size) k x) ≡ product ns * size
slab_of n ns size k x h e = length_slab (product ns * size) k x (slab_inside k n (product ns * size) (length x) h (e ∙ mul_assoc n (product ns) size))

pub length_of : (array start shape : List ℕ) (size : ℕ) → inside array start shape ≡ true → (x : List ℕ) → length x ≡ product array * size
    → length (subset_of array start shape size x) ≡ product shape * size
unfolding subset_of
length_of array start shape size = by_axis (λ ns ss ls. (x : List ℕ) → length x ≡ product ns * size → length (subset_of ns ss ls size x) ≡ product ls * size)
    (λ x e. e)
    (λ n s l ns ss ls f i h x e. joined_length _ (product ls * size) l (λ k q. h _ (slab_of n ns size (s + k) x (omega arith) e)) ∙ sym (mul_assoc l (product ls) size))
    array start shape

-- where a subset lies on the first axis
pub slabs_inside : (n s l : ℕ) (ns : List ℕ) (size : ℕ) (x : List ℕ) → s + l ≤ n → length x ≡ product (n ∷ ns) * size → s * (product ns * size) + l * (product ns * size) ≤ length x
slabs_inside n s l ns size x f e = row_inside s l n (product ns * size) (length x) f (e ∙ mul_assoc n (product ns) size)

pub length_put : (array start shape : List ℕ) (size : ℕ) → inside array start shape ≡ true → (d x : List ℕ) → length d ≡ product shape * size → length x ≡ product array * size
    → length (put_subset array start shape size d x) ≡ length x
unfolding put_subset
length_put array start shape size = by_axis (λ ns ss ls. (d x : List ℕ) → length d ≡ product ls * size → length x ≡ product ns * size → length (put_subset ns ss ls size d x) ≡ length x)
    (λ d x g e. g ∙ sym e)
    (λ n s l ns ss ls f i h d x g e.
    length_over _ (product ns * size) s l x
    (λ k q. let z = slab_of n ns size (s + k) x (omega arith) e in h _ _ (slab_of l ls size k d q g) z ∙ z)
    (slabs_inside n s l ns size x f e))
    array start shape
