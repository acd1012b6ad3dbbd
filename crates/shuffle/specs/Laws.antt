-- The laws of the shuffle.
use Rattle.std.specs.Prelude.{◌≡◌, ℕ, ◌*◌, ◌/◌, ◌%◌, ◌<◌, ◌≤◌, None, ◌==◌}
use Rattle.std.proofs.Common.{sym, refl, ap, ◌∙◌, subst, mul_comm}
use Rattle.std.proofs.lemmas.Bool.{eqb-true}
use Rattle.stage.specs.Stage.{too_long}
use Rattle.stage.specs.Single.{CodingLaws}
use Rattle.stage.specs.Gathers.{gathered}
use Rattle.stage.proofs.Bytewise.{taken, not_too_long}
use Rattle.stage.proofs.Gathers.{gathering_laws}
use Rattle.shuffle.specs.Shuffle.{by_columns, uneven, shuffling}
use Rattle.shuffle.specs.Turns.{by_columns_back, whole}

pub not_uneven : (e n : ℕ) → uneven e n ≡ None → (n % e ≡ 0) × (n ≤ 4096)
not_uneven e n r =
    let h = taken (n % e == 0) (too_long n) 11 r in
    (eqb-true (n % e) 0 h.0, not_too_long n h.1)

pub shuffling_laws : (e : ℕ) → CodingLaws (λ n. n) (λ n. n) (shuffling e)
shuffling_laws e =
    gathering_laws (λ n. n) (λ n. n) (shuffling e) (λ n. by_columns (n / e) e) (λ n. by_columns e (n / e))
    (λ n x r. ap (λ v. gathered (by_columns (n / e) e) v x) (sym (full n r)))
    (λ n x r. ap (λ v. gathered (by_columns e (n / e)) v x) (sym (turned_full n r)))
    (λ n x. refl)
    (λ n r. record {
      few = (not_uneven e n r).1;
      same = refl;
      back = subst (λ v. (p : ℕ) → p < v → (by_columns e (n / e) p < v) × (by_columns (n / e) e (by_columns e (n / e) p) ≡ p)) (sym (turned_full n r)) (by_columns_back e (n / e));
    })
  where
    full : (n : ℕ) → uneven e n ≡ None → n ≡ n / e * e
    full n r = whole n e (not_uneven e n r).0

    turned_full : (n : ℕ) → uneven e n ≡ None → n ≡ e * (n / e)
    turned_full n r = full n r ∙ mul_comm (n / e) e
