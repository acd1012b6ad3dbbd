-- The elements of a list after a part was written over it.
use Rattle.std.proofs.Common.{◌≡◌, ℕ, ◌+◌, ◌-◌, ◌<◌, ◌≤◌, List, ◌++◌, cond, length, take, drop, slice_index_or, refl, sym, ap, subst, ◌∙◌, arith, ⊎_elim}
use Rattle.std.proofs.lemmas.Bool.{cases_lt, le-leb}
use Rattle.std.proofs.lemmas.List.{length-drop, length-take-le, length-append, get_or_append_left, get_or-append_right, get_or-take, get_or-drop}
use Rattle.cells.specs.Cells.{overwritten, put_at, RestKept}

module _ (a : ℕ) (ys xs : List ℕ) (h : a + length ys ≤ length xs) where
  pub over_below : (j d : ℕ) → j < a → slice_index_or (overwritten a ys xs) j d ≡ slice_index_or xs j d
  over_below j d b = get_or_append_left (take a xs) _ d j (omega (arith, length-take-le a xs (omega arith))) ∙ get_or-take a xs j d b

  pub over_in : (j d : ℕ) → a ≤ j → j < a + length ys → slice_index_or (overwritten a ys xs) j d ≡ slice_index_or ys (j - a) d
  over_in j d b c =
      get_or-append_right (take a xs) _ a j d (length-take-le a xs (omega arith)) b ∙ get_or_append_left ys _ d (j - a) (omega arith)

  pub over_above : (j d : ℕ) → a + length ys ≤ j → slice_index_or (overwritten a ys xs) j d ≡ slice_index_or xs j d
  over_above j d b =
      get_or-append_right (take a xs) _ a j d (length-take-le a xs (omega arith)) (omega arith)
      ∙ get_or-append_right ys _ (length ys) (j - a) d refl (omega arith)
      ∙ get_or-drop (a + length ys) xs (j - a - length ys) d
      ∙ ap (λ u. slice_index_or xs u d) (omega arith)

  pub over_length : length (overwritten a ys xs) ≡ length xs
  over_length =
      omega (arith, length-append (take a xs) (ys ++ drop (a + length ys) xs), length-append ys (drop (a + length ys) xs), length-take-le a xs (omega arith), length-drop (a + length ys) xs)

  pub put_fits : put_at a ys xs ≡ overwritten a ys xs
  put_fits = ap (λ b. cond b (overwritten a ys xs) xs) (le-leb _ _ h)

-- a part at the front
pub front_written : (ys xs now : List ℕ) → length ys ≤ length xs → now ≡ put_at 0 ys xs → RestKept (λ m. m) (length ys) xs now
front_written ys xs now h e = subst (RestKept (λ m. m) (length ys) xs) (sym (e ∙ put_fits 0 ys xs (omega arith))) record {
  size = over_length 0 ys xs (omega arith);
  rest = λ k o d. ⊎_elim
      (λ (lt : k < length ys). absurd (o k lt refl))
      (λ (ge : length ys ≤ k). over_above 0 ys xs (omega arith) k d (omega arith))
      (cases_lt k (length ys));
}
