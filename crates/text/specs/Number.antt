-- Decimal numbers: how a word of digits is read.
use Rattle.std.specs.Prelude.{◌≡◌, ℕ, ◌+◌, ◌-◌, ◌*◌, ◌^◌, ◌<◌, cond, ◌&&◌, List, [], ◌∷◌, length, Some, None, decimal, Option, nat_lt}
use Rattle.std.specs.Str.{all_ascii_digits}

-- the value of digits, after the number so far
abbrev pub digits_value : ℕ → List ℕ → ℕ
digits_value n [] = n
digits_value n (c ∷ cs) = digits_value (10 * n + (c - 48)) cs

-- one digit or more, and a value below 2 ^ 64
abbrev pub number_of : List ℕ → Option ℕ
number_of ds =
    cond (nat_lt 0 (length ds) && (all_ascii_digits ds && nat_lt (digits_value 0 ds) (2 ^ 64))) (Some (digits_value 0 ds)) None

-- what is written of a number is read back
abbrev pub ReadsBack : Type 0
ReadsBack = (n : ℕ) → n < 2 ^ 64 → number_of (decimal n) ≡ Some n
