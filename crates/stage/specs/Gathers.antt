-- Bytes put into another order.
use Rattle.std.specs.Prelude.{ℕ, ◌+◌, ◌*◌, ◌/◌, ◌%◌, List, map, slice_index}
use Rattle.std.specs.List.{range_with_len}

-- n bytes, where byte p is what was byte g p
abbrev pub gathered : (ℕ → ℕ) → ℕ → List ℕ → List ℕ
gathered g n x = map (λ p. slice_index x (g p)) (range_with_len 0 n)

-- the same of elements of s bytes: element e is what was element g e
abbrev pub by_element : (ℕ → ℕ) → ℕ → ℕ → ℕ
by_element g s p = g (p / s) * s + p % s
