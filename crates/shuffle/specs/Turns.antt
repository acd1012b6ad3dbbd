-- A table that is turned: where each place goes, and that turning it back gives it again.
use Rattle.std.specs.Prelude.{◌≡◌, ℕ, ◌+◌, ◌*◌, ◌/◌, ◌%◌, ◌<◌, List, length, slice_index}
use Rattle.std.proofs.Common.{refl, ap, ◌∙◌, mul_comm, arith}
use Rattle.std.proofs.lemmas.Nat.{div-mul-add, mod-mul-add, mul-add-lt, div_below, mod_below, div-add-mod'}
use Rattle.form.proofs.Shapes.{positive}
use Rattle.stage.specs.Gathers.{gathered}
use Rattle.stage.proofs.Gathers.{get_or-gathered, gathered_back, inside}
use Rattle.shuffle.specs.Shuffle.{by_columns, turned, Goes, Back}

-- column j of row i
pub by_columns_at : (rows cols i j : ℕ) → i < rows → by_columns rows cols (j * rows + i) ≡ i * cols + j
by_columns_at rows cols i j h = rw (mod-mul-add j rows i h, div-mul-add j rows i h) refl

-- each place has a place in the table, and the turned table's columns lead back
pub by_columns_back : (rows cols p : ℕ) → p < rows * cols → (by_columns rows cols p < rows * cols) × (by_columns cols rows (by_columns rows cols p) ≡ p)
by_columns_back rows cols p h =
    let k : p < cols * rows = rw (mul_comm cols rows) h in
    let w = (positive cols rows (omega arith)).1 in
    let row : p % rows < rows = mod_below p rows w in
    let col : p / rows < cols = div_below p rows cols w k in
    (inside (p % rows) cols (p / rows) rows row col, by_columns_at cols rows (p / rows) (p % rows) col ∙ div-add-mod' p rows)

pub get_or-turned : (rows cols : ℕ) (xs : List ℕ) (i j : ℕ) → i < rows → j < cols → slice_index (turned rows cols xs) (j * rows + i) ≡ slice_index xs (i * cols + j)
get_or-turned rows cols xs i j hi hj =
    get_or-gathered (by_columns rows cols) (rows * cols) xs (j * rows + i) (mul-add-lt j rows i cols hj hi)
    ∙ ap (λ k. slice_index xs k) (by_columns_at rows cols i j hi)

turned-turned : (rows cols : ℕ) (xs : List ℕ) → length xs ≡ rows * cols → turned cols rows (turned rows cols xs) ≡ xs
turned-turned rows cols xs l =
    ap (λ n. gathered (by_columns cols rows) (cols * rows) (gathered (by_columns rows cols) n xs)) (mul_comm rows cols)
    ∙ gathered_back (by_columns rows cols) (by_columns cols rows) (cols * rows) xs (l ∙ mul_comm rows cols) (by_columns_back cols rows)

pub whole : (n e : ℕ) → n % e ≡ 0 → n ≡ n / e * e
whole n e z = omega (arith, div-add-mod' n e)

pub goes : Goes
goes e n x i b = get_or-turned (n / e) e x i b

pub back : Back
back e n x z l = turned-turned (n / e) e x (l ∙ whole n e z)
