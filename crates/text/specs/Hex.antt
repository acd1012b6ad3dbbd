-- Hexadecimal: how bytes are written, and how they are read.
use Rattle.std.specs.Prelude.{◌≡◌, ℕ, ◌+◌, ◌-◌, ◌*◌, ◌/◌, ◌%◌, ◌<◌, cond, ◌&&◌, List, [], ◌∷◌, Some, None, Option, ◌==◌, nat_le, nat_lt}
use Rattle.std.specs.List.{AllByRecursion}

-- the digits 0 to 9 and a to f
abbrev pub hex_digit : ℕ → ℕ
hex_digit n = cond (nat_lt n 10) (48 + n) (87 + n)

-- two digits for each byte
abbrev pub hex_pairs : List ℕ → List ℕ
hex_pairs [] = []
hex_pairs (b ∷ bs) = hex_digit (b / 16) ∷ (hex_digit (b % 16) ∷ hex_pairs bs)

-- the same, with `-` for no bytes
abbrev pub hex_of : List ℕ → List ℕ
hex_of [] = 45 ∷ []
hex_of (b ∷ bs) = hex_pairs (b ∷ bs)

abbrev pub hex_value : ℕ → Option ℕ
hex_value c = cond (nat_le 48 c && nat_le c 57) (Some (c - 48)) (cond (nat_le 97 c && nat_le c 102) (Some (c - 87)) None)

abbrev pub byte_of : Option ℕ → Option ℕ → Option ℕ
byte_of None low = None
byte_of (Some h) None = None
byte_of (Some h) (Some l) = Some (16 * h + l)

abbrev pub in_front : {A : Type 0} → Option A → Option (List A) → Option (List A)
in_front None xs = None
in_front (Some x) None = None
in_front (Some x) (Some xs) = Some (x ∷ xs)

abbrev pub hex_bytes : List ℕ → Option (List ℕ)
hex_bytes [] = Some []
hex_bytes (c ∷ []) = None
hex_bytes (c ∷ (d ∷ cs)) = in_front (byte_of (hex_value c) (hex_value d)) (hex_bytes cs)

-- the bytes that a word writes
abbrev pub hex_parsed : List ℕ → Option (List ℕ)
hex_parsed [] = None
hex_parsed (c ∷ []) = cond (c == 45) (Some []) None
hex_parsed (c ∷ (d ∷ cs)) = hex_bytes (c ∷ (d ∷ cs))

-- what is written of bytes is read back
abbrev pub ReadsBack : Type 0
ReadsBack = (bs : List ℕ) → AllByRecursion (λ b. b < 256) bs → hex_parsed (hex_of bs) ≡ Some bs

-- and a word that is read is what is written of those bytes
abbrev pub OnlyPrinted : Type 0
OnlyPrinted = (w bs : List ℕ) → hex_parsed w ≡ Some bs → hex_of bs ≡ w
