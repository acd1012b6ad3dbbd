-- The first byte that passes a test, as `position` finds it.
use Rattle.std.proofs.Common.{◌≡◌, ℕ, ◌+◌, ◌<◌, Bool, true, false, not, ltb, cond, List, length, take, drop, Some, None, Option, sym, refl, ap, ◌∙◌, unwrap_or, ◌-◌, arith}
use Rattle.std.proofs.Math.Bool.{not-not}
use Rattle.std.proofs.lemmas.List.{take_rest, take_all, length-take-le, take-append-drop}
use Rattle.std.proofs.lemmas.Bool.Decides.{nat_tests}
use Rattle.std.proofs.lemmas.List.Sums.{prefix_len-le-length, prefix_len-drop_yes, prefix_len_stops}
use Rattle.std.specs.List.{prefix_len, position, position_or_len}
use Rattle.text.specs.Words.{blank, Word}

module _ (p : ℕ → Bool) (xs : List ℕ) where
  found : (n : ℕ) → Some n ≡ position p xs → (n ≡ position_or_len p xs) × (n < length xs)
  found n e = grind (arith, nat_tests)

  unfound : None ≡ position p xs → position_or_len p xs ≡ length xs
  unfound e = let most = prefix_len-le-length (λ x. not (p x)) xs in grind (arith, nat_tests)

  found_or_len : (o : Option ℕ) → o ≡ position p xs → unwrap_or o (length xs) ≡ position_or_len p xs
  found_or_len None e = sym (unfound e)
  found_or_len (Some n) e = (found n e).0

  -- the part before that byte, and what stands after it
  pub part_then : (n : ℕ) → Some n ≡ position p xs → (take n xs ≡ take (position_or_len p xs) xs) × (Some (take (length xs - (n + 1)) (drop (n + 1) xs)) ≡ cond (ltb (position_or_len p xs) (length xs)) (Some (drop (position_or_len p xs + 1) xs)) None)
  part_then n e =
      let f = found n e in
      let test : ltb (position_or_len p xs) (length xs) ≡ true = grind (arith, nat_tests) in
      (ap (λ k. take k xs) f.0, rw test (ap Some (take_rest xs (n + 1)) ∙ ap (λ k. Some (drop (k + 1) xs)) f.0))

  pub part_all : None ≡ position p xs → (xs ≡ take (position_or_len p xs) xs) × (None ≡ cond (ltb (position_or_len p xs) (length xs)) (Some (drop (position_or_len p xs + 1) xs)) None)
  part_all e =
      let all = unfound e in
      let test : ltb (position_or_len p xs) (length xs) ≡ false = grind (arith, nat_tests) in
      (sym (take_all (position_or_len p xs) xs (omega arith)), rw test refl)

-- no byte but blanks
pub all_blank : (line : List ℕ) → None ≡ position (λ b. not (blank b)) line → prefix_len blank line ≡ length line
all_blank line e = simp not-not at (unfound (λ b. not (blank b)) line e)

-- the word begins at the first byte that is no blank, and ends before the next blank
pub word_stands : (line text : List ℕ) (start : ℕ) (end : Option ℕ) → Some start ≡ position (λ b. not (blank b)) line → text ≡ drop start line → end ≡ position blank text → Word line (take (unwrap_or end (length text)) text) (drop (unwrap_or end (length text)) text)
word_stands line text start end e t w =
    let f = found (λ b. not (blank b)) line start e in
    let at : start ≡ prefix_len blank line = simp not-not at f.0 in
    let stop = prefix_len_stops blank line 0 (omega arith) in
    let more = prefix_len-drop_yes (λ c. not (blank c)) line start 0 f.1 (rw at (ap not stop)) in
    let till = found_or_len blank text end w in
    let whole = take-append-drop (unwrap_or end (length text)) text in
    let most = prefix_len-le-length (λ c. not (blank c)) text in
    let long = length-take-le (unwrap_or end (length text)) text (omega arith) in
    let first = ap (prefix_len (λ c. not (blank c))) t in
    (whole ∙ (t ∙ ap (λ k. drop k line) at), omega arith, ap (prefix_len (λ c. not (blank c))) whole ∙ (sym till ∙ sym long))
