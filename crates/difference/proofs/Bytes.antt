-- The bytes of a number, as std's conversions have them.
use Rattle.std.proofs.Common.{◌≡◌, ℕ, zero, suc, ◌+◌, ◌*◌, ◌/◌, ◌%◌, ◌<◌, ◌≤◌, ◌-◌, List, [], ◌∷◌, ◌++◌, length, get_or, take, drop, replicate, refl, ap, sym, ◌∙◌, arith, lit<}
use Rattle.std.specs.Int.{to_le_bytes, from_le_bytes, w64}
use Rattle.std.proofs.Math.Nat.{div-div-eq-div-mul}
use Rattle.std.proofs.lemmas.List.{at_drop_more, at_drop_all, drop-replicate, length-append, length-drop}
use Rattle.stage.specs.Elements.{little, digits}

eight_digits : (v : ℕ) → to_le_bytes w64 v ≡ digits 8 v
eight_digits v = sym (simp div-div-eq-div-mul)

take-digits : (w n v : ℕ) → w ≤ n → take w (digits n v) ≡ digits w v
take-digits zero n v h = refl
take-digits (suc w) zero v h = absurd (omega arith)
take-digits (suc w) (suc n) v h = ap (λ ds. v % 256 ∷ ds) (take-digits w n (v / 256) (omega arith))

pub to_eight : (w v : ℕ) → w ≤ 8 → take w (to_le_bytes w64 v) ≡ digits w v
to_eight w v h = ap (take w) (eight_digits v) ∙ take-digits w 8 v h

little-zeros : (n : ℕ) → little (replicate n 0) ≡ 0
little-zeros zero = refl
little-zeros (suc n) = ap (λ v. 0 + 256 * v) (little-zeros n)

little-append : (xs ys : List ℕ) → little ys ≡ 0 → little (xs ++ ys) ≡ little xs
little-append [] ys h = h
little-append (x ∷ xs) ys h = ap (λ v. x + 256 * v) (little-append xs ys h)

eight_little : (xs : List ℕ) → length xs ≡ 8 → from_le_bytes w64 xs ≡ little xs
eight_little xs h =
    let more : (k : ℕ) → k < 8 → little (drop k xs) ≡ get_or xs k 0 + 256 * little (drop (k + 1) xs) = λ k l. at_drop_more little xs k 0 (omega arith) in
    let none = at_drop_all little xs 8 (omega arith) in
    omega (arith, more 0 (lit< tt), more 1 (lit< tt), more 2 (lit< tt), more 3 (lit< tt), more 4 (lit< tt), more 5 (lit< tt), more 6 (lit< tt), more 7 (lit< tt))

pub from_eight : (ys xs : List ℕ) → length xs ≤ 8 → ys ≡ xs → from_le_bytes w64 (ys ++ drop (length xs) (replicate 8 0)) ≡ little xs
from_eight ys xs h e =
    let zs : List ℕ = drop (length xs) (replicate 8 0) in
    let l : length (xs ++ zs) ≡ 8 = simp (length-append, length-drop) (omega arith) in
    let z : little zs ≡ 0 = ap little (drop-replicate (length xs) 8 0) ∙ little-zeros (8 - length xs) in
    ap (λ bs. from_le_bytes w64 (bs ++ zs)) e ∙ eight_little (xs ++ zs) l ∙ little-append xs zs z
