-- Shapes: how many elements and bytes an array has. Lengths are a list, or a function of the axis.
use Rattle.std.specs.Prelude.{ℕ, zero, suc, ◌*◌, Bool, ◌&&◌, leb, List, [], ◌∷◌, length, nat_le, slice_index}
use Rattle.std.specs.List.{list_all}

-- the product of all lengths, in exact whole numbers
abbrev pub product : List ℕ → ℕ
product [] = 1
product (n ∷ ns) = n * product ns

-- one to four lengths, each at least 1
abbrev pub is_shape : List ℕ → Bool
is_shape shape = (nat_le 1 (length shape) && nat_le (length shape) 4) && list_all (leb 1) shape

-- how many elements an array of r axes has
abbrev pub count : (ℕ → ℕ) → ℕ → ℕ
count lens zero = 1
count lens (suc r) = count lens r * lens r

-- what a list of numbers has for an axis
abbrev pub on : List ℕ → ℕ → ℕ
on xs a = slice_index xs a

-- how many bytes an array has
abbrev pub volume : List ℕ → ℕ → ℕ → ℕ
volume lengths dims size = count (on lengths) dims * size

-- one to four axes, none empty, and at most 4,096 bytes
abbrev pub sound : List ℕ → ℕ → ℕ → Bool
sound lengths dims size = (nat_le 1 dims && nat_le dims 4) && (nat_le 1 (volume lengths dims size) && nat_le (volume lengths dims size) 4096)
