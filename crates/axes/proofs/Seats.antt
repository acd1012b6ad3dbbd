-- Elements under permuted axes: where each comes from, and back.
use Rattle.std.proofs.Common.{◌≡◌, ℕ, zero, suc, ◌<◌, ◌≤◌, eqb, sym, ap, ◌∙◌, subst, ⊎_elim, arith}
use mathlib.Core.Path.{fun_ext}
use Rattle.std.proofs.lemmas.Bool.{cond-true, cond-false, cond_both, eq-eqb, ne_eqb, cases_eq}
use Rattle.form.specs.Shapes.{count}
use Rattle.axes.specs.Axes.{offset, index, Within, place, seat, Onto, Follows}
use Rattle.axes.proofs.Numbers.{index_below, index-offset, offset-index, offset_below, offset_same}

pub seat_valid : (of by q : ℕ → ℕ) (r n a : ℕ) → Follows of by q r → n < count by r → a < r → index by r n (q a) < of a
seat_valid of by q r n a s h l = subst (λ v. index by r n (q a) < v) (s a l).1 (index_below by r n (q a) h (s a l).0)

pub seat_below : (of by q : ℕ → ℕ) (r n : ℕ) → Follows of by q r → n < count by r → seat of by q r n < count of r
seat_below of by q r n s h = offset_below of _ r (λ a l. seat_valid of by q r n a s h l)

-- the seat of the element with the index i
pub seat_at : (of by q i : ℕ → ℕ) (r : ℕ) → Within i by r → ((a : ℕ) → a < r → q a < r) → seat of by q r (offset by i r) ≡ offset of (λ a. i (q a)) r
seat_at of by q i r v w = offset_same of _ _ r (λ a l. index-offset by i r (q a) v (w a l))

pub seat_back : (of by q p : ℕ → ℕ) (r n : ℕ) → Follows by of p r → ((a : ℕ) → a < r → (q a < r) × (p (q a) ≡ a)) → n < count of r → seat of by q r (seat by of p r n) ≡ n
seat_back of by q p r n s t h =
    offset_same of _ _ r
    (λ a l.
    index-offset by (λ b. index of r n (p b)) r (q a) (λ b k. seat_valid by of p r n b s h k) (t a l).0
    ∙ ap (index of r n) (t a l).1)
    ∙ offset-index of r n h

-- a place is one of the r axes
pub place_below : (order : ℕ → ℕ) (r a : ℕ) → 1 ≤ r → place order r a < r
place_below order zero a h = absurd (omega arith)
place_below order (suc zero) a h = cond_both (eqb (order 0) a) 0 0 (λ v. v < 1) (λ e. omega arith) (λ e. omega arith)
place_below order (suc (suc r)) a h = cond_both (eqb (order (suc r)) a) (suc r) (place order (suc r) a) (λ v. v < suc (suc r)) (λ e. omega arith) (λ e. let k = place_below order (suc r) a (omega arith) in omega arith)

-- what the order has somewhere it has at the place
met_found : (order : ℕ → ℕ) (r a k : ℕ) → k < r → order k ≡ a → order (place order r a) ≡ a
met_found order zero a k h e = absurd (omega arith)
met_found order (suc r) a k h e =
    ⊎_elim
    (λ (q : order r ≡ a). ap order (cond-true (eqb (order r) a) r (place order r a) (eq-eqb (order r) a q)) ∙ q)
    (λ (q : order r ≡ a → ⊥).
    let ne : k ≡ r → ⊥ = λ z. q (ap order (sym z) ∙ e) in
    ap order (cond-false (eqb (order r) a) r (place order r a) (ne_eqb (order r) a q)) ∙ met_found order r a k (omega arith) e)
    (cases_eq (order r) a)

-- an order that has each axis has it at its place
pub found : (order : ℕ → ℕ) (r a : ℕ) → Onto order r → a < r → order (place order r a) ≡ a
found order r a o l = let m = o a l in met_found order r a m.0 m.1 m.2

pub seat_same : (of by q p : ℕ → ℕ) (r : ℕ) → ((a : ℕ) → a < r → q a ≡ p a) → seat of by q r ≡ seat of by p r
seat_same of by q p r h = fun_ext (λ n. offset_same of _ _ r (λ a l. ap (index by r n) (h a l)))
