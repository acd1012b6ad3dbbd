-- What the loop over the words keeps.
use Rattle.std.specs.Prelude.{◌≡◌, ℕ, ◌+◌, ◌*◌, ◌^◌, ◌<◌, ◌≤◌, List, [], ◌∷◌, length, drop, slice_index}
use Rattle.std.proofs.Common.{sym, refl, ap, ◌∙◌, add_assoc, arith}
use Rattle.std.proofs.lemmas.Bool.Decides.{nat_tests}
use Rattle.fletcher32.specs.Fletcher32.{words, sum, running, folded}

-- a sum's fold knows of its first part no more than the fold
folded_first : (a b c : ℕ) → folded a ≡ folded b → folded (a + c) ≡ folded (b + c)
folded_first a b c h = grind (arith, nat_tests)

pub folded_both : (a b c d : ℕ) → folded a ≡ folded b → folded c ≡ folded d → folded (a + c) ≡ folded (b + d)
folded_both a b c d h k = grind (arith, nat_tests)

-- nor does the sum of all running sums of its start
folded-running : (ws : List ℕ) (s r t u : ℕ) → folded s ≡ folded r → folded t ≡ folded u → folded (t + sum (running s ws)) ≡ folded (u + sum (running r ws))
folded-running [] s r t u h k = folded_first t u 0 k
folded-running (w ∷ ws) s r t u h k =
    let hw = folded_first s r w h in
    let rest = folded-running ws (s + w) (r + w) (t + (s + w)) (u + (r + w)) hw (folded_both t u (s + w) (r + w) k hw) in
    simp add_assoc (simp add_assoc at rest)

-- what the loop keeps: both sums are small, and with what is left they fold to the whole sums' folds
pub record Kept (all left : List ℕ) (s t : ℕ) : Type 0 where
  pub small_s : s < 2 ^ 62
  pub small_t : t < 2 ^ 62
  pub sum_kept : folded (s + sum (words left)) ≡ folded (sum (words all))
  pub sums_kept : folded (t + sum (running s (words left))) ≡ folded (sum (running 0 (words all)))

-- one more word w, to the sums r and u
module _ (all : List ℕ) (s t r u w : ℕ)
    (lr : r < 2 ^ 62)
    (lu : u < 2 ^ 62)
    (er : folded r ≡ folded (s + w))
    (eu : folded u ≡ folded (t + (s + w)))
  where
    more : (left rest : List ℕ) → words left ≡ w ∷ words rest → Kept all left s t → Kept all rest r u
    more left rest e k =
        let k_sum = rw e at k.sum_kept in
        let k_sums = rw e at k.sums_kept in
        record {
          small_s = lr;
          small_t = lu;
          sum_kept = folded_first r (s + w) (sum (words rest)) er ∙ simp add_assoc k_sum;
          sums_kept = folded-running (words rest) r (s + w) u (t + (s + w)) er eu ∙ simp add_assoc (simp add_assoc at k_sums);
        }

    two : (left : List ℕ) → 2 ≤ length left → w ≡ slice_index left 0 * 256 + slice_index left 1 → words left ≡ w ∷ words (drop 2 left)
    two [] h e = absurd (omega arith)
    two (x ∷ []) h e = absurd (omega arith)
    two (x ∷ y ∷ xs) h e = let z : 256 * x + y ≡ w = omega arith in rw z refl

    pub two_more : (left rest : List ℕ) → 2 ≤ length left → rest ≡ drop 2 left → w ≡ slice_index left 0 * 256 + slice_index left 1 → Kept all left s t → Kept all rest r u
    two_more left rest h q e = more left rest (two left h e ∙ ap (λ v. w ∷ words v) (sym q))
