-- The laws of the exclusive or.
use Rattle.std.specs.Prelude.{◌≡◌, ℕ, ◌*◌, ◌^◌, ◌<◌, bit_xor}
use Rattle.std.proofs.Common.{ap, ◌∙◌, arith}
use Rattle.std.specs.Int.Bits.{xor_assoc, xor_self, xor_zero_r}
use Rattle.std.proofs.lemmas.Nat.{xor_lt}
use Rattle.groups.specs.Groups.{Narrow, GroupLaws, exclusive}
use Rattle.groups.specs.Widths.{pow_bits}

xor_back : (a b : ℕ) → bit_xor (bit_xor a b) b ≡ a
xor_back a b = xor_assoc a b b ∙ ap (bit_xor a) (xor_self b) ∙ xor_zero_r a

xor_fits : (w a b : ℕ) → a < 256 ^ w → b < 256 ^ w → bit_xor a b < 256 ^ w
xor_fits w a b p q =
    let e = pow_bits w in
    let x = xor_lt (8 * w) a b (omega arith) (omega arith) in
    omega arith

pub exclusive_laws : (w : ℕ) → Narrow w → GroupLaws (exclusive w)
exclusive_laws w h = record {
  narrow = h;
  plus_fits = xor_fits w;
  less_fits = xor_fits w;
  less_plus = λ a b p q. xor_back a b;
  plus_less = λ a b p q. xor_back a b;
}
