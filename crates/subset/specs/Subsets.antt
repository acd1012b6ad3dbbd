-- Subsets of an array in C order, by the array's shape and the subset's start and lengths. The first axis goes slowest, so an
-- array is its slabs along the first axis, one after the other.
use Rattle.std.specs.Prelude.{ℕ, zero, suc, ◌+◌, ◌*◌, Bool, true, false, ◌&&◌, List, [], ◌∷◌, ◌++◌, take, drop, nat_le}
use Rattle.form.specs.Shapes.{product}

-- there are a start and a length for each axis, and on none the subset passes the array's end
abbrev pub inside : List ℕ → List ℕ → List ℕ → Bool
inside [] [] [] = true
inside (n ∷ ns) (s ∷ ss) (l ∷ ls) = nat_le (s + l) n && inside ns ss ls
inside _ _ _ = false

-- slab k of x, in slabs of w bytes
abbrev pub slab : ℕ → ℕ → List ℕ → List ℕ
slab w k x = take w (drop (k * w) x)

-- f 0, f 1, .., f (n - 1), one after the other
unfoldable pub joined : (ℕ → List ℕ) → ℕ → List ℕ
joined f zero = []
joined f (suc n) = joined f n ++ f n

-- the bytes of the subset of x: on no axis, the element; else, for each index of the subset on the first axis, the subset of
-- that slab
unfoldable pub subset_of : List ℕ → List ℕ → List ℕ → ℕ → List ℕ → List ℕ
subset_of (n ∷ ns) (s ∷ ss) (l ∷ ls) size x = joined (λ k. subset_of ns ss ls size (slab (product ns * size) (s + k) x)) l
subset_of _ _ _ size x = x

-- the array x with d in place of the subset's bytes: the slabs before the subset, those that it meets, each with its part of d
-- put in, and those after it
unfoldable pub put_subset : List ℕ → List ℕ → List ℕ → ℕ → List ℕ → List ℕ → List ℕ
put_subset (n ∷ ns) (s ∷ ss) (l ∷ ls) size d x =
    take (s * (product ns * size)) x
    ++ (joined (λ k. put_subset ns ss ls size (slab (product ls * size) k d) (slab (product ns * size) (s + k) x)) l
    ++ drop ((s + l) * (product ns * size)) x)
put_subset _ _ _ size d x = d
