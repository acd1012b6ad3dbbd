-- What the loop over the elements of an array keeps.
use Rattle.std.proofs.Common.{◌≡◌, ℕ, ◌+◌, ◌-◌, ◌*◌, ◌/◌, ◌%◌, ◌<◌, ◌≤◌, List, ◌∷◌, ◌++◌, length, map, take, drop, sym, ap, ◌∙◌, subst, one-mul, arith}
use Rattle.std.proofs.lemmas.Nat.{le-div}
use Rattle.std.proofs.lemmas.Nat.Gcd.{le_of_dvd, dvd_of_mod-eq-zero}
use Rattle.std.proofs.lemmas.List.{length-take-le}
use borrow.Rule.Slice.PartMut.{put_mid}
use Rattle.stage.specs.Elements.{little, digits, elements, bytes}
use Rattle.stage.proofs.Elements.{Writing, pieces_more, piece_length, writing_more}
use Rattle.difference.specs.Difference.{first_stays}
use Rattle.difference.specs.ElementBytes.{length_digits}

-- e of n elements of w bytes are turned: F says what becomes of the others, where p stands before them, and `all` is what the n become
abbrev pub Turned : ℕ → (ℕ → List ℕ → List ℕ) → ℕ → List ℕ → ℕ → ℕ → List ℕ → Type 0
Turned w F n all e p = Writing w (λ ps. bytes w (F p (map little ps))) n (bytes w all) e

-- an array of l bytes that is not empty has an element, in a group whose numbers have u bytes
pub some_whole : (l w u : ℕ) → w ≡ u → 1 ≤ u → 0 < l → l % u ≡ 0 → (0 < l / w) × (w ≤ l)
some_whole l w u e p q h =
    let m : l % w ≡ 0 = subst (λ k. l % k ≡ 0) (sym e) h in
    let k : w ≤ l = le_of_dvd q (dvd_of_mod-eq-zero w m) in
    (le-div 1 l w (omega arith) (omega arith), k)

module _ (w : ℕ) (F : ℕ → List ℕ → List ℕ) (n : ℕ) where
  -- the first element stays
  pub turned_first : (v : ℕ) (x : List ℕ) → 0 < n → w ≤ length x → v ≡ little (take w x) → digits (length (take w x)) v ≡ take w x
      → Turned w F n (first_stays F (elements w n x)) 1 v x
  turned_first v x h l t b =
      let vs : List ℕ = elements w (n - 1) (drop w x) in
      let i : elements w n x ≡ v ∷ vs = ap (map little) (pieces_more w n x h) ∙ ap (λ u. u ∷ vs) (sym t) in
      let d : digits w v ≡ take w x = subst (λ j. digits j v ≡ take w x) (length-take-le w x l) b in
      ap (λ j. take j x ++ bytes w (F v (elements w (n - 1) (drop j x)))) (one-mul w) ∙ ap (λ y. y ++ bytes w (F v vs)) (sym d) ∙ ap (λ us. bytes w (first_stays F us)) (sym i)

  -- element e, which is v, becomes y
  pub turned_more : (all : List ℕ) (e p v y q : ℕ) (x ys : List ℕ) → e < n → n * w ≤ length x → Turned w F n all e p x
      → v ≡ little (take ((e + 1) * w - e * w) (drop (e * w) x)) → ((vs : List ℕ) → F p (v ∷ vs) ≡ y ∷ F q vs)
      → ys ≡ digits (length (take ((e + 1) * w - e * w) (drop (e * w) x))) y
      → Turned w F n all (e + 1) q (put_mid (e * w) ((e + 1) * w - e * w) x ys)
  turned_more all e p v y q x ys h l g t s d =
      let z : ys ≡ digits w y = d ∙ ap (λ a. digits a y) (piece_length w n e x ys h l) in
      writing_more w n e x ys h l (λ ps. bytes w (F p (map little ps))) (λ ps. bytes w (F q (map little ps))) (bytes w all) (ap length z ∙ length_digits w y)
      (λ ps. ap (λ u. bytes w (F p (u ∷ map little ps))) (sym t) ∙ ap (bytes w) (s (map little ps)) ∙ ap (λ a. a ++ bytes w (F q (map little ps))) (sym z)) g
