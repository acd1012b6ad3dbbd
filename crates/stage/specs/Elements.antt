-- The elements of an array as numbers, each of w bytes.
use Rattle.std.specs.Prelude.{ℕ, zero, suc, ◌+◌, ◌*◌, ◌/◌, ◌%◌, List, [], ◌∷◌, map, take, drop}
use Rattle.std.specs.List.{flat_map}

-- the number that bytes write, the least byte first
abbrev pub little : List ℕ → ℕ
little [] = 0
little (d ∷ ds) = d + 256 * little ds

-- the number that bytes write after the number v, the most significant byte first
abbrev pub big_after : ℕ → List ℕ → ℕ
big_after v [] = v
big_after v (d ∷ ds) = big_after (v * 256 + d) ds

abbrev pub big : List ℕ → ℕ
big ds = big_after 0 ds

-- the bytes of each of the first n elements, w to each
abbrev pub pieces : ℕ → ℕ → List ℕ → List (List ℕ)
pieces w zero xs = []
pieces w (suc n) xs = take w xs ∷ pieces w n (drop w xs)

-- these elements, where `number` reads the bytes of one
abbrev pub elements_by : (List ℕ → ℕ) → ℕ → ℕ → List ℕ → List ℕ
elements_by number w n xs = map number (pieces w n xs)

-- as an array has them: each element least byte first
abbrev pub elements : ℕ → ℕ → List ℕ → List ℕ
elements = elements_by little

-- a number's w bytes, the least first
abbrev pub digits : ℕ → ℕ → List ℕ
digits zero v = []
digits (suc w) v = v % 256 ∷ digits w (v / 256)

-- the bytes of elements, w to each
abbrev pub bytes : ℕ → List ℕ → List ℕ
bytes w vs = flat_map (digits w) vs
