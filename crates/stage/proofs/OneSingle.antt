-- A single coding's laws make a stage's.
use Rattle.std.proofs.Common.{◌≡◌, ℕ, ◌≤◌, true, eqb, ◌⊎◌, List, length, sym, refl, ap, ◌∙◌, subst, inl, inr, ⊎_elim, arith}
use Rattle.std.proofs.lemmas.Bool.{cond-true, cond_both, eq-eqb, cases_eq}
use Rattle.stage.specs.Stage.{Bytes, Stage, Laws}
use Rattle.stage.specs.Single.{Coding, CodingLaws, single}

-- two places of a single coding
two : (a b : ℕ) → a ≤ b → b ≤ 1 → (a ≡ b) ⊎ ((a ≡ 0) × (b ≡ 1))
two a b h k = ⊎_elim (λ e. inl e) (λ (e : a ≡ b → ⊥). inr (omega arith, omega arith)) (cases_eq a b)

module _ {F G : Type 0} (bF : F → ℕ) (bG : G → ℕ) (s : Coding F G) where
  abbrev t : Stage F G
  t = single bF bG s

  still : (f : F) (a : ℕ) (x : List ℕ) → t.undone f a a x ≡ x
  still f a x = cond-true (eqb a a) _ _ (eq-eqb a a refl)

  pub single_laws : CodingLaws bF bG s → Laws bF bG (single bF bG s)
  single_laws l = record {
    first = λ f r. refl;
    last = λ f r. refl;
    bound = λ f k r h. cond_both (eqb k 0) (bG (s.coded f)) (bF f) (λ n. n ≤ 4096) (λ e. (l.fits f r).1) (λ e. (l.fits f r).0);
    encoded_size = l.encoded_size;
    encoded_bytes = l.encoded_bytes;
    undone_size = λ f i j x r h k e.
        ⊎_elim
        (λ (q : i ≡ j). subst (λ v. length (t.undone f i v x) ≡ t.size f v) q (ap length (still f i x) ∙ e))
        (λ (q : (i ≡ 0) × (j ≡ 1)).
        let e0 : length x ≡ t.size f 0 = subst (λ v. length x ≡ t.size f v) q.0 e in
        subst (λ v. length (t.undone f v j x) ≡ t.size f j) (sym q.0)
        (subst (λ v. length (t.undone f 0 v x) ≡ t.size f v) (sym q.1) (l.decoded_size f x r e0)))
        (two i j h k);
    undone_bytes = λ f i j x r h k e y.
        ⊎_elim
        (λ (q : i ≡ j). subst (λ v. Bytes (t.undone f i v x)) q (subst Bytes (sym (still f i x)) y))
        (λ (q : (i ≡ 0) × (j ≡ 1)).
        let e0 : length x ≡ t.size f 0 = subst (λ v. length x ≡ t.size f v) q.0 e in
        subst (λ v. Bytes (t.undone f v j x)) (sym q.0)
        (subst (λ v. Bytes (t.undone f 0 v x)) (sym q.1) (l.decoded_bytes f x r e0 y)))
        (two i j h k);
    undone_none = λ f i x r h e. still f i x;
    undone_on = λ f i j k x r h g m e.
        ⊎_elim
        (λ (q : i ≡ j). subst (λ v. t.undone f v k (t.undone f i v x) ≡ t.undone f i k x) q (ap (t.undone f i k) (still f i x)))
        (λ (q : (i ≡ 0) × (j ≡ 1)).
        let jk : j ≡ k = omega arith in
        subst (λ v. t.undone f j v (t.undone f i j x) ≡ t.undone f i v x) jk (still f j (t.undone f i j x)))
        (two i j h (omega arith));
    whole = l.back;
    passing = λ f k x r h e y.
        let k0 : 0 ≡ k = omega arith in
        subst (λ v. t.passes f v (t.undone f 0 v (s.encoded f x)) ≡ true) k0 (l.passing f x r e y);
  }
