-- The integers modulo 256 ^ w: the laws, and how 64 bits compute them.
use Rattle.std.specs.Prelude.{◌≡◌, ℕ, zero, suc, ◌+◌, ◌-◌, ◌*◌, ◌/◌, ◌%◌, ◌^◌, ◌<◌, ◌≤◌, bit_and}
use Rattle.std.proofs.Common.{sym, ap, ◌∙◌, mod-lt, mod-eq_of_lt, mul-add, mul_comm, mul-one, suc-mul, arith, pow_pos, pow-add, lit<}
use Rattle.std.proofs.Math.Nat.{mod-add-mod, add-mod_right, add-mul-mod_self_left, one-le-pow}
use Rattle.std.proofs.Math.Pow.{mod-mod-pow}
use Rattle.std.proofs.lemmas.Nat.{div-mul-add, div_below, div-add-mod', and_mask}
use Rattle.groups.specs.Groups.{Narrow, GroupLaws, modular}
use Rattle.groups.specs.Widths.{pow_bits}

pub above : (w : ℕ) → 0 < 256 ^ w
above w = one-le-pow w 256 (lit< tt)

around : (m a : ℕ) → a < m → (a + m) % m ≡ a
around m a p = add-mod_right a m ∙ mod-eq_of_lt p

less_plus : (m a b : ℕ) → a < m → b < m → ((a + (m - b % m)) % m + b) % m ≡ a
less_plus m a b p q =
    let r = mod-eq_of_lt q in
    let e : a + (m - b % m) + b ≡ a + m = omega arith in
    mod-add-mod (a + (m - b % m)) m b ∙ ap (λ v. v % m) e ∙ around m a p

plus_less : (m a b : ℕ) → a < m → b < m → ((a + b) % m + (m - b % m)) % m ≡ a
plus_less m a b p q =
    let r = mod-eq_of_lt q in
    let e : a + b + (m - b % m) ≡ a + m = omega arith in
    mod-add-mod (a + b) m (m - b % m) ∙ ap (λ v. v % m) e ∙ around m a p

pub modular_laws : (w : ℕ) → Narrow w → GroupLaws (modular w)
modular_laws w h = record {
  narrow = h;
  plus_fits = λ a b p q. mod-lt (a + b) (above w);
  less_fits = λ a b p q. mod-lt (a + (256 ^ w - b % 256 ^ w)) (above w);
  less_plus = less_plus (256 ^ w);
  plus_less = plus_less (256 ^ w);
}

one_more : (a b : ℕ) → 0 < a → (a - 1) * b + b ≡ a * b
one_more zero b h = absurd (omega arith)
one_more (suc a) b h = let e : suc a - 1 ≡ a = omega arith in ap (λ k. k * b + b) e ∙ sym (suc-mul a b)

-- the largest number of k bits, of 64
top_bits : (k : ℕ) → k ≤ 64 → (2 ^ 64 - 1) / 2 ^ (64 - k) + 1 ≡ 2 ^ k
top_bits k h =
    let e : (64 - k) + k ≡ 64 = omega arith in
    let m : 2 ^ (64 - k) * 2 ^ k ≡ 2 ^ 64 = sym (pow-add 2 (64 - k) k) ∙ ap (λ j. 2 ^ j) e in
    let p : 0 < 2 ^ k = pow_pos k in
    let q : 0 < 2 ^ (64 - k) = pow_pos (64 - k) in
    let d : (2 ^ k - 1) * 2 ^ (64 - k) + 2 ^ (64 - k) ≡ 2 ^ 64 = one_more (2 ^ k) (2 ^ (64 - k)) p ∙ mul_comm (2 ^ k) (2 ^ (64 - k)) ∙ m in
    let s : 2 ^ 64 - 1 ≡ (2 ^ k - 1) * 2 ^ (64 - k) + (2 ^ (64 - k) - 1) = omega arith in
    let l : 2 ^ (64 - k) - 1 < 2 ^ (64 - k) = omega arith in
    let z = ap (λ j. j / 2 ^ (64 - k)) s ∙ div-mul-add (2 ^ k - 1) (2 ^ (64 - k)) (2 ^ (64 - k) - 1) l in
    omega arith

pub top_is : (w u top : ℕ) → Narrow w → u ≡ w → top ≡ (2 ^ 64 - 1) / 2 ^ (64 - 8 * u) → top + 1 ≡ 256 ^ w
top_is w u top h e t =
    ap (λ v. v + 1) (t ∙ ap (λ v. (2 ^ 64 - 1) / 2 ^ (64 - 8 * v)) e) ∙ top_bits (8 * w) (omega arith) ∙ sym (pow_bits w)

-- what a sum and a difference of 64 bits leave under that mask
module _ (w top : ℕ) (h : Narrow w) (e : top + 1 ≡ 256 ^ w) where
  masked : (n : ℕ) → bit_and (n % 2 ^ 64) top ≡ n % 256 ^ w
  masked n =
      let b = pow_bits w in
      let t : top ≡ 2 ^ (8 * w) - 1 = omega arith in
      let k : (64 - 8 * w) + 8 * w ≡ 64 = omega arith in
      ap (bit_and (n % 2 ^ 64)) t ∙ and_mask (n % 2 ^ 64) (8 * w) ∙ ap (λ j. n % 2 ^ j % 2 ^ (8 * w)) (sym k)
      ∙ mod-mod-pow n (64 - 8 * w) (8 * w)
      ∙ ap (λ j. n % j) (sym b)

  pub masked_plus : (a b : ℕ) → bit_and ((a + b) % 2 ^ 64) top ≡ (a + b) % 256 ^ w
  masked_plus a b = masked (a + b)

  pub masked_less : (a b : ℕ) → b < 2 ^ 64 → bit_and ((a + (2 ^ 64 - b)) % 2 ^ 64) top ≡ (a + (256 ^ w - b % 256 ^ w)) % 256 ^ w
  masked_less a b q =
      let m : ℕ = 256 ^ w in
      let z : ℕ = 256 ^ (8 - w) in
      let k : w + (8 - w) ≡ 8 = omega arith in
      let p : 0 < m = above w in
      let zm : m * z ≡ 2 ^ 64 = sym (pow-add 256 w (8 - w)) ∙ ap (λ j. 256 ^ j) k in
      let c = mul_comm z m in
      let d : b / m < z = div_below b m z p (omega arith) in
      let t : ℕ = z - (b / m + 1) in
      let zt : z ≡ b / m + (1 + t) = omega arith in
      let s : m * z ≡ m * (b / m) + (m * 1 + m * t) = ap (λ j. m * j) zt ∙ mul-add m (b / m) (1 + t) ∙ ap (λ j. m * (b / m) + j) (mul-add m 1 t) in
      let o = mul-one m in
      let r = div-add-mod' b m in
      let f = mul_comm (b / m) m in
      let g : b % m < m = mod-lt b p in
      let y : a + (2 ^ 64 - b) ≡ (a + (m - b % m)) + m * t = omega arith in
      masked (a + (2 ^ 64 - b)) ∙ ap (λ j. j % m) y ∙ add-mul-mod_self_left (a + (m - b % m)) m t
