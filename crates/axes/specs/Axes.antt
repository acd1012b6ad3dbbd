-- Arrays in C order. Lengths, an index and an order are functions of the axis; the last axis goes fastest.
use Rattle.std.specs.Prelude.{◌≡◌, ℕ, zero, suc, ◌+◌, ◌*◌, ◌/◌, ◌%◌, ◌<◌, cond, ◌==◌}
use Rattle.form.specs.Shapes.{count}

-- the number, in C order, of the element with the index i
abbrev pub offset : (ℕ → ℕ) → (ℕ → ℕ) → ℕ → ℕ
offset lens i zero = 0
offset lens i (suc r) = offset lens i r * lens r + i r

-- the index of element n on axis a
abbrev pub index : (ℕ → ℕ) → ℕ → ℕ → ℕ → ℕ
index lens zero n a = 0
index lens (suc r) n a = cond (a == r) (n % lens r) (index lens r (n / lens r) a)

-- an index is one of an array if it is below the length on each axis
abbrev pub Within : (ℕ → ℕ) → (ℕ → ℕ) → ℕ → Type 0
Within i lens r = (a : ℕ) → a < r → i a < lens a

-- each element has an index, and by it its number
abbrev pub Indexed : Type 0
Indexed = (lens : ℕ → ℕ) (r n : ℕ) → n < count lens r → Within (index lens r n) lens r × (offset lens (index lens r n) r ≡ n)

-- each index is that of an element
abbrev pub Numbered : Type 0
Numbered = (lens i : ℕ → ℕ) (r : ℕ)
    → Within i lens r
    → (offset lens i r < count lens r) × ((a : ℕ) → a < r → index lens r (offset lens i r) a ≡ i a)

-- each number below r is the order's at a place below r
abbrev pub Onto : (ℕ → ℕ) → ℕ → Type 0
Onto order r = (a : ℕ) → a < r → (k : ℕ) × (k < r) × (order k ≡ a)

-- the last of r axes at which the order has a
abbrev pub place : (ℕ → ℕ) → ℕ → ℕ → ℕ
place order zero a = 0
place order (suc r) a = cond (order r == a) r (place order r a)

-- the number, under the lengths `of`, of the element whose index on each axis a is, on axis q a, the index of element n under
-- the lengths `by`
abbrev pub seat : (ℕ → ℕ) → (ℕ → ℕ) → (ℕ → ℕ) → ℕ → ℕ → ℕ
seat of by q r n = offset of (λ a. index by r n (q a)) r

-- `by` has on axis q a the length that `of` has on axis a
abbrev pub Follows : (ℕ → ℕ) → (ℕ → ℕ) → (ℕ → ℕ) → ℕ → Type 0
Follows of by q r = (a : ℕ) → a < r → (q a < r) × (by (q a) ≡ of a)
