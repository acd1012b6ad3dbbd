-- What makes entries an order: the front of a list that holds one, the places in one, and entries among which each axis is found.
use Rattle.std.proofs.Common.{◌≡◌, ℕ, ◌<◌, ◌≤◌, Bool, true, nat_eq, List, length, get_or, take, sym, ap, ◌∙◌, subst, zero-add, arith}
use Rattle.std.specs.List.{list_any, range_with_len}
use Rattle.std.proofs.lemmas.Bool.{eqb-true, eq-eqb}
use Rattle.std.proofs.lemmas.Bool.Decides.{nat_tests}
use Rattle.std.proofs.lemmas.List.{get_or_default, get_or-take}
use Rattle.std.proofs.lemmas.List.Folds.{Any-from_list_any, list_any_at}
use Rattle.std.proofs.lemmas.List.FromFn.{length-range_with_len, get_or-range_with_len}
use Rattle.std.proofs.lemmas.List.Sums.{AllPass-from_list_all, list_all-from_AllPass}
use Rattle.form.specs.Shapes.{on}
use Rattle.axes.specs.Axes.{place, Onto}
use Rattle.axes.proofs.Numbers.{onto_within, onto_once}
use Rattle.axes.proofs.Seats.{place_below, found}
use Rattle.transpose.specs.Transpose.{Permutes, has_axes, is_order}

-- whether entries are an order depends on them alone
permutes_same : (o q : ℕ → ℕ) (d : ℕ) → ((k : ℕ) → k < d → o k ≡ q k) → Permutes o d → Permutes q d
permutes_same o q d h p = record {
  some = p.some;
  few = p.few;
  ranged = λ k l. subst (λ v. v < d) (h k l) (p.ranged k l);
  met = λ a l. let m = p.met a l in (m.0, m.1, sym (h m.0 m.1) ∙ m.2);
}

same_entries : (xs ys : List ℕ) (d : ℕ) → ys ≡ take d xs → (k : ℕ) → k < d → on xs k ≡ on ys k
same_entries xs ys d e k l = sym (get_or-take d xs k 0 l) ∙ ap (λ v. on v k) (sym e)

pub permutes_front : (xs ys : List ℕ) (d : ℕ) → ys ≡ take d xs → Permutes (on xs) d → Permutes (on ys) d
permutes_front xs ys d e = permutes_same (on xs) (on ys) d (same_entries xs ys d e)

pub permutes_whole : (xs ys : List ℕ) (d : ℕ) → ys ≡ take d xs → Permutes (on ys) d → Permutes (on xs) d
permutes_whole xs ys d e = permutes_same (on ys) (on xs) d (λ k l. sym (same_entries xs ys d e k l))

-- the places in an order are an order too
pub permutes_back : (order places : ℕ → ℕ) (d : ℕ) → Permutes order d → ((a : ℕ) → a < d → places a ≡ place order d a) → Permutes places d
permutes_back order places d p h = record {
  some = p.some;
  few = p.few;
  ranged = λ a l. subst (λ v. v < d) (sym (h a l)) (place_below order d a p.some);
  met = λ a l.
      let k = order a in
      let r = p.ranged a l in
      (k, r, h k r ∙ onto_once order d a (place order d k) p.met l (place_below order d k p.some) (found order d k p.met r));
}

-- an axis is among the entries
has : List ℕ → ℕ → Bool
has xs a = list_any (λ y. nat_eq y a) xs

axes_tested : (xs : List ℕ) → 1 ≤ length xs → length xs ≤ 4 → (has_axes xs ≡ true → Permutes (on xs) (length xs)) × (Permutes (on xs) (length xs) → has_axes xs ≡ true)
unfolding has
axes_tested xs s f =
    let d : ℕ = length xs in
    let axis : (a k : ℕ) → a < d → get_or (range_with_len 0 d) a k ≡ a = λ a k l. get_or-range_with_len 0 d a k l ∙ zero-add a in (
      λ t.
          let onto : Onto (on xs) d =
          λ a l.
          let p = AllPass-from_list_all (has xs) (range_with_len 0 d) t a 0 (omega (arith, length-range_with_len 0 d)) in
          let w = Any-from_list_any (λ y. nat_eq y a) xs (subst (λ v. has xs v ≡ true) (axis a 0 l) p) in
          (w.0, w.2, get_or_default xs w.0 0 w.1 w.2 ∙ w.3 ∙ eqb-true w.1 a w.4) in
          record { some = s; few = f; ranged = λ k l. onto_within (on xs) d k onto l; met = onto },
      λ p. list_all-from_AllPass (has xs) (range_with_len 0 d)
          (λ a k l.
          let m = p.met a (omega (arith, length-range_with_len 0 d)) in
          subst (λ v. has xs v ≡ true) (sym (axis a k (omega (arith, length-range_with_len 0 d)))) (list_any_at (λ y. nat_eq y a) xs m.0 0 m.1 (eq-eqb (on xs m.0) a m.2))),
    )

-- the test finds the orders
pub order_tested : (xs : List ℕ) → (is_order xs ≡ true → Permutes (on xs) (length xs)) × (Permutes (on xs) (length xs) → is_order xs ≡ true)
order_tested xs = (
  λ t.
      let s : 1 ≤ length xs = grind (arith, nat_tests) in
      let f : length xs ≤ 4 = grind (arith, nat_tests) in
      let a : has_axes xs ≡ true = grind (arith, nat_tests) in
      (axes_tested xs s f).0 a,
  λ p.
      let s : 1 ≤ length xs = p.some in
      let f : length xs ≤ 4 = p.few in
      let a : has_axes xs ≡ true = (axes_tested xs s f).1 p in
      grind (arith, nat_tests),
)
