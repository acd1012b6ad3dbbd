-- Numbers of w bytes.
use Rattle.std.specs.Prelude.{◌≡◌, ℕ, zero, suc, ◌+◌, ◌*◌, ◌^◌, refl}
use Rattle.std.proofs.Common.{sym, ap, ◌∙◌, arith, pow-add}
use Rattle.std.proofs.Math.Nat.{pow-succ'}

-- w bytes are 8 w bits
pub pow_bits : (w : ℕ) → 256 ^ w ≡ 2 ^ (8 * w)
pow_bits zero = refl
pow_bits (suc w) =
    let e : 8 * suc w ≡ 8 + 8 * w = omega arith in
    pow-succ' 256 w ∙ ap (λ r. 256 * r) (pow_bits w) ∙ sym (ap (λ k. 2 ^ k) e ∙ pow-add 2 8 (8 * w))
