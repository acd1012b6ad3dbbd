-- What the loop that turns a table keeps.
use Rattle.std.proofs.Common.{◌≡◌, ℕ, ◌+◌, ◌*◌, ◌<◌, List, length, slice_index, slice_set, arith}
use Rattle.std.proofs.lemmas.Grind.{common_steps}
use Rattle.std.proofs.lemmas.Nat.{mul-add-lt}
use Rattle.std.proofs.lemmas.List.FromFn.{fill_by_all}
use Rattle.shuffle.specs.Shuffle.{by_columns, turned}
use Rattle.shuffle.specs.Turns.{by_columns_at, by_columns_back}

-- the first m bytes of xs stand in their places
abbrev pub Placed : ℕ → ℕ → List ℕ → List ℕ → ℕ → Type 0
Placed rows cols xs ys m = (p : ℕ) → p < rows * cols → by_columns rows cols p < m → slice_index ys p ≡ slice_index xs (by_columns rows cols p)

-- byte j of row i too
pub placed_more : (rows cols : ℕ) (xs ys : List ℕ) (i j v : ℕ) → i < rows → j < cols → length ys ≡ rows * cols → v ≡ slice_index xs (i * cols + j) → Placed rows cols xs ys (i * cols + j) → Placed rows cols xs (slice_set ys (j * rows + i) v) (i * cols + (j + 1))
placed_more rows cols xs ys i j v hi hj l w k p lp lm =
    let here = by_columns_at rows cols i j hi in
    let back = (by_columns_back rows cols p lp).1 in
    let there = by_columns_at cols rows j i hj in
    let inside = mul-add-lt j rows i cols hj hi in
    grind (arith, common_steps)

-- all rows
pub placed_all : (rows cols i : ℕ) (xs ys : List ℕ) → i ≡ rows → length ys ≡ rows * cols → Placed rows cols xs ys (i * cols) → ys ≡ turned rows cols xs
placed_all rows cols i xs ys e l k = fill_by_all (λ p. slice_index xs (by_columns rows cols p)) ys (rows * cols) 0 l (λ p lp. k p lp (rw e (by_columns_back rows cols p lp).0))
