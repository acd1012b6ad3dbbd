-- The parts of a word, and the word that parts make.
use Rattle.std.proofs.Common.{◌≡◌, ◌≢◌, ℕ, Bool, true, false, eqb, cond, List, [], ◌∷◌, ◌++◌, refl, ap, ◌∙◌, arith}
use Rattle.std.proofs.lemmas.Bool.Decides.{nat_tests}
use Rattle.std.proofs.lemmas.List.Splits.{slice_split-cons_yes, slice_split-cons_no, join_with_byte-slice_split}
use Rattle.std.specs.List.{onto_first, join_with_byte, AllByRecursion}
use Rattle.text.specs.List.{parts_of, AllWithout, PartsJoin, PartsBack}

module _ (separator : ℕ) where
  same : eqb separator separator ≡ true
  same = grind (arith, nat_tests)

  other : (b : ℕ) → b ≢ separator → eqb b separator ≡ false
  other b n = grind (arith, nat_tests)

  -- one more byte in front
  more_without : (b : ℕ) (parts : List (List ℕ)) (t : Bool) → eqb b separator ≡ t → AllWithout separator parts → AllWithout separator (cond t ([] ∷ parts) (onto_first b parts))
  more_without b parts true e h = (tt, h)
  more_without b [] false e h = let n : b ≢ separator = grind (arith, nat_tests) in ((n, tt), tt)
  more_without b (part ∷ parts) false e h = let n : b ≢ separator = grind (arith, nat_tests) in ((n, h.0), h.1)

  without : (word : List ℕ) → AllWithout separator (parts_of separator word)
  without [] = (tt, tt)
  without (b ∷ bs) = more_without b (parts_of separator bs) (eqb b separator) refl (without bs)

  -- a part before a separator, and the last one
  part_before : (part rest : List ℕ) → AllByRecursion (λ b. b ≢ separator) part → parts_of separator (part ++ (separator ∷ rest)) ≡ part ∷ parts_of separator rest
  part_before [] rest h = slice_split-cons_yes (λ b. eqb b separator) separator rest same
  part_before (b ∷ bs) rest h =
      slice_split-cons_no (λ b. eqb b separator) b (bs ++ (separator ∷ rest)) (other b h.0) ∙ ap (onto_first b) (part_before bs rest h.1)

  part_last : (part : List ℕ) → AllByRecursion (λ b. b ≢ separator) part → parts_of separator part ≡ part ∷ []
  part_last [] h = refl
  part_last (b ∷ bs) h = slice_split-cons_no (λ b. eqb b separator) b bs (other b h.0) ∙ ap (onto_first b) (part_last bs h.1)

  back : (part : List ℕ) (parts : List (List ℕ)) → AllWithout separator (part ∷ parts) → parts_of separator (join_with_byte separator (part ∷ parts)) ≡ part ∷ parts
  back part [] h = part_last part h.0
  back part (next ∷ more) h = part_before part (join_with_byte separator (next ∷ more)) h.0 ∙ ap (λ parts. part ∷ parts) (back next more h.1)

pub parts_join : PartsJoin
parts_join separator word = (without separator word, join_with_byte-slice_split separator word)

pub parts_back : PartsBack
parts_back = back
