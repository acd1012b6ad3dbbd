-- What loops over the axes keep.
use Rattle.std.proofs.Common.{◌≡◌, ℕ, suc, ◌+◌, ◌-◌, ◌*◌, ◌/◌, ◌%◌, ◌<◌, ◌≤◌, List, length, get_or, set, sym, ap, ◌∙◌, subst, ⊎_elim, add-one, arith}
use Rattle.std.proofs.lemmas.Nat.{div_below}
use Rattle.std.proofs.lemmas.List.{get_or-set_same, get_or-set_other}
use Rattle.std.proofs.lemmas.Bool.{cases_eq}
use Rattle.form.specs.Shapes.{count}
use Rattle.form.proofs.Shapes.{positive}
use Rattle.axes.specs.Axes.{offset, index}
use Rattle.axes.proofs.Numbers.{index_last, index_rest, offset_below, count_le}

-- what a loop from the last axis down keeps: the axes from a on are in `at`, and `rest` has the others
pub record Peeled (lens : ℕ → ℕ) (r n : ℕ) (at : ℕ → ℕ) (rest a : ℕ) : Type 0 where
  pub within : rest < count lens a
  pub done : (b : ℕ) → b < r → a ≤ b → at b ≡ index lens r n b
  pub left : (b : ℕ) → b < a → index lens r n b ≡ index lens a rest b

-- the same, with the axis before a
peeled_at : {lens : ℕ → ℕ} {r n : ℕ} {at : ℕ → ℕ} {rest a : ℕ} → 0 < a → Peeled lens r n at rest a → Peeled lens r n at rest (suc (a - 1))
peeled_at {lens} {r} {n} {at} {rest} {a} h p = let e : a ≡ suc (a - 1) = omega arith in subst (Peeled lens r n at rest) e p

-- the axis before a is not empty
peeled_full : {lens : ℕ → ℕ} {r n : ℕ} {at : ℕ → ℕ} {rest a : ℕ} → 0 < a → Peeled lens r n at rest a → 0 < lens (a - 1)
peeled_full {lens} {r} {n} {at} {rest} {a} h p = let w = (peeled_at h p).within in (positive (count lens (a - 1)) (lens (a - 1)) (omega arith)).1

-- one axis more
pub peeled_more : {lens : ℕ → ℕ} {r n rest a : ℕ} (at : List ℕ) → r ≤ 4 → length at ≡ 4 → 0 < a → a ≤ r → Peeled lens r n (λ b. get_or at b 0) rest a
    → Peeled lens r n (λ b. get_or (set at (a - 1) (rest % lens (a - 1))) b 0) (rest / lens (a - 1)) (a - 1)
peeled_more {lens} {r} {n} {rest} {a} at h4 l4 h la q =
    let k : ℕ = a - 1 in
    let p = peeled_at h q in
    record {
      within = div_below rest (lens k) (count lens k) (peeled_full h q) p.within;
      done = λ b lb le.
          ⊎_elim
          (λ (e : b ≡ k).
          subst (λ v. get_or (set at k (rest % lens k)) v 0 ≡ index lens r n v) (sym e)
          (get_or-set_same at k (rest % lens k) 0 (omega arith) ∙ sym (index_last lens k rest) ∙ sym (p.left k (omega arith))))
          (λ (e : b ≡ k → ⊥). get_or-set_other at k b (rest % lens k) 0 e ∙ p.done b lb (omega arith))
          (cases_eq b k);
      left = λ b lb. p.left b (omega arith) ∙ index_rest lens k rest b (λ e. omega arith);
    }

pub offset_small : (lens i : ℕ → ℕ) (a r n : ℕ) → a < r → 1 ≤ count lens r → count lens r ≤ 4096 → ((b : ℕ) → b < r → i b < lens b) → n ≡ offset lens i a → n * lens a + i a < 4096
offset_small lens i a r n h f s v e =
    let k = count_le lens (suc a) r (omega arith) f in
    let m = offset_below lens i (suc a) (λ b l. v b (omega arith)) in
    subst (λ w. w * lens a + i a < 4096) (sym e) (omega arith)

pub offset_more : (lens i : ℕ → ℕ) (a n : ℕ) → n ≡ offset lens i a → n * lens a + i a ≡ offset lens i (a + 1)
offset_more lens i a n e = ap (λ v. v * lens a + i a) e ∙ ap (offset lens i) (sym (add-one a))
