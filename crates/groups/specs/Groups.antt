-- Groups on the numbers of a fixed width of bytes.
use Rattle.std.specs.Prelude.{◌≡◌, ℕ, ◌+◌, ◌-◌, ◌%◌, ◌^◌, ◌<◌, ◌≤◌, bit_xor}

-- one to eight bytes
abbrev pub Narrow : ℕ → Type 0
Narrow w = (1 ≤ w) × (w ≤ 8)

pub record Operations : Type 0 where
  pub width : ℕ
  pub plus : ℕ → ℕ → ℕ
  pub less : ℕ → ℕ → ℕ

-- a number of width bytes
abbrev pub Fits : Operations → ℕ → Type 0
Fits o a = a < 256 ^ o.width

pub record GroupLaws (o : Operations) : Type 0 where
  pub narrow : Narrow o.width
  pub plus_fits : (a b : ℕ) → Fits o a → Fits o b → Fits o (o.plus a b)
  pub less_fits : (a b : ℕ) → Fits o a → Fits o b → Fits o (o.less a b)
  pub less_plus : (a b : ℕ) → Fits o a → Fits o b → o.plus (o.less a b) b ≡ a
  pub plus_less : (a b : ℕ) → Fits o a → Fits o b → o.less (o.plus a b) b ≡ a

-- the integers modulo 2 ^ (8 * w)
abbrev pub modular : ℕ → Operations
modular w = record {
  width = w;
  plus = λ a b. (a + b) % 256 ^ w;
  less = λ a b. (a + (256 ^ w - b % 256 ^ w)) % 256 ^ w;
}

-- exclusive or, bit by bit
abbrev pub exclusive : ℕ → Operations
exclusive w = record { width = w; plus = bit_xor; less = bit_xor }
