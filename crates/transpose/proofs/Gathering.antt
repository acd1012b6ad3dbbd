-- What the loop that gathers elements keeps.
use Rattle.std.proofs.Common.{◌≡◌, ℕ, ◌+◌, ◌-◌, ◌*◌, ◌<◌, ◌≤◌, List, ◌++◌, length, get_or, take, drop, sym, ap, ◌∙◌, subst, ⊎_elim, arith}
use borrow.Rule.Slice.PartMut.{put_mid}
use Rattle.std.proofs.lemmas.List.{get_or_append_left, get_or-append_right, get_or-take, get_or-drop, length-append, length-take-le, length-drop}
use Rattle.std.proofs.lemmas.List.FromFn.{fill_by_all}
use Rattle.std.proofs.lemmas.Slice.{take-put_mid}
use Rattle.std.proofs.lemmas.Bool.{cases_lt}
use Rattle.form.specs.Forms.{element_size}
use Rattle.form.specs.Shapes.{on, count}
use Rattle.form.proofs.Sized.{form_facts, elements_few}
use Rattle.stage.specs.Arrays.{element_count, array_bytes}
use Rattle.stage.specs.Gathers.{gathered, by_element}
use Rattle.axes.specs.Axes.{offset, Onto}
use Rattle.axes.proofs.Numbers.{count_same, count_permuted}
use Rattle.axes.proofs.Seats.{seat_below}
use Rattle.axes.proofs.Loops.{offset_small, offset_more}
use Rattle.transpose.specs.declared.gather.Gathering.{Gathering}
use Rattle.transpose.specs.Gatherings.{seat_in}
use Rattle.stage.proofs.Elements.{next_is, element_inside}
use Rattle.stage.proofs.Gathers.{length-gathered, get_or-gathered, element_byte}

module _ (g : Gathering) where
  pub few_axes : g.of.dims ≤ 4
  few_axes = (form_facts g.of).few

  -- the two arrays have as many elements
  pub same_elements : count (on g.by.lengths) g.of.dims ≡ element_count g.of
  same_elements =
      let o = g.order in
      let all = subst (Onto (on o.order)) g.dims o.permutes.met in
      sym (count_permuted (on g.by.lengths) (on o.order) g.of.dims all) ∙ count_same _ (on g.of.lengths) g.of.dims (λ a l. (g.follows a l).1)

  -- one axis more of an offset
  pub record Step (at : List ℕ) (n k len axis : ℕ) : Type 0 where
    pub small : n * len + on at axis < 4096
    pub inside : axis < 4
    pub more : n * len + on at axis ≡ offset (on g.of.lengths) (λ a. on at (on g.order.order a)) (k + 1)

  offset_step : (at : List ℕ) (n k len axis : ℕ) → ((a : ℕ) → a < g.of.dims → on at (on g.order.order a) < on g.of.lengths a)
      → k < g.of.dims → len ≡ on g.of.lengths k → axis ≡ on g.order.order k
      → n ≡ offset (on g.of.lengths) (λ a. on at (on g.order.order a)) k
      → Step at n k len axis
  offset_step at n k len axis h l el ea e =
      let i : ℕ → ℕ = λ a. on at (on g.order.order a) in
      let same : n * len + on at axis ≡ n * on g.of.lengths k + i k = ap (λ v. n * v + on at axis) el ∙ ap (λ v. n * on g.of.lengths k + on at v) ea in
      let some = elements_few g.of in
      record {
        small = subst (λ v. v < 4096) (sym same) (offset_small (on g.of.lengths) i k g.of.dims n l some.0 some.1 h e);
        inside = let r = (g.follows k l).0 in let f = few_axes in omega arith;
        more = same ∙ offset_more (on g.of.lengths) i k n e;
      }

  -- the same in a loop over the lengths and the order side by side
  pub offset_turn : {order : List ℕ} {n k len axis : ℕ} (at : List ℕ) → ((a : ℕ) → a < g.of.dims → on at (on g.order.order a) < on g.of.lengths a)
      → order ≡ take g.order.dims g.order.order → length order ≡ g.order.dims
      → n ≡ offset (on g.of.lengths) (λ a. on at (on g.order.order a)) k
      → (k < length g.of.lengths) × (k < length order) × ((d : ℕ) → len ≡ get_or g.of.lengths k d) × ((d : ℕ) → axis ≡ get_or order k d)
      → Step at n k len axis
  offset_turn {order} {n} {k} {len} {axis} at h e le i t =
      let l : k < g.order.dims = omega (arith, t.1) in
      let d = g.dims in
      offset_step at n k len axis h (omega arith) (t.2 0) (t.3 0 ∙ ap (λ v. get_or v k 0) e ∙ get_or-take g.order.dims g.order.order k 0 l) i

  -- the element that is read lies in the array
  pub seat_inside : {size n m : ℕ} (x : List ℕ) → length x ≡ array_bytes g.of → size ≡ element_size g.of → m ≡ seat_in g n → n < element_count g.of → m * size + size ≤ length x
  seat_inside {size} {n} {m} x w q e h =
      let b = seat_below (on g.of.lengths) (on g.by.lengths) (on g.order.order) g.of.dims n g.follows (subst (λ v. n < v) (sym same_elements) h) in
      subst (λ v. m * v + v ≤ length x) (sym q) (element_inside m (element_size g.of) (element_count g.of) x (omega arith) (omega arith))

-- the first e elements stand in front
abbrev pub Gathered : (ℕ → ℕ) → ℕ → ℕ → List ℕ → List ℕ → Type 0
Gathered g s e x out = take (e * s) out ≡ gathered (by_element g s) (e * s) x

-- one element more
gathered_more : (g : ℕ → ℕ) (s e : ℕ) (x part : List ℕ) → length part ≡ s → ((b : ℕ) → b < s → get_or part b 0 ≡ get_or x (g e * s + b) 0) → gathered (by_element g s) (e * s) x ++ part ≡ gathered (by_element g s) (e * s + s) x
gathered_more g s e x part l h =
    let f : ℕ → ℕ = by_element g s in
    let p : List ℕ = gathered f (e * s) x in
    let lp = length-gathered f (e * s) x in
    fill_by_all (λ k. get_or x (f k) 0) (p ++ part) (e * s + s) 0 (omega (arith, length-append p part))
    (λ k m.
    ⊎_elim
    (λ (u : k < e * s). get_or_append_left p part 0 k (omega arith) ∙ get_or-gathered f (e * s) x k u)
    (λ (u : e * s ≤ k).
    let b : k - e * s < s = omega arith in
    let z : e * s + (k - e * s) ≡ k = omega arith in
    get_or-append_right p part (e * s) k 0 lp u ∙ h (k - e * s) b ∙ ap (λ v. get_or x v 0) (sym (element_byte g s e (k - e * s) b) ∙ ap f z))
    (cases_lt k (e * s)))

-- element m of the source is written at the place of element e
pub element_next : (g : ℕ → ℕ) (s c e m k j : ℕ) (source out part : List ℕ) → e < c → m ≡ g e → m * s + s ≤ length source → c * s ≤ length out
    → j ≡ s → part ≡ take j (drop (m * s) source)
    → Gathered g s e source out → Gathered g s (e + 1) source (put_mid (e * s) k out part)
element_next g s c e m k j source out part le q lm lo ej w i =
    let ie = element_inside e s c out le lo in
    let n = next_is e s in
    let is : part ≡ take s (drop (m * s) source) = w ∙ ap (λ v. take v (drop (m * s) source)) ej in
    let lpart : length part ≡ s = ap length is ∙ length-take-le s (drop (m * s) source) (simp length-drop (omega arith)) in
    let at : (b : ℕ) → b < s → get_or part b 0 ≡ get_or source (g e * s + b) 0 =
    λ b lb. ap (λ v. get_or v b 0) is ∙ get_or-take s (drop (m * s) source) b 0 lb ∙ get_or-drop (m * s) source b 0 ∙ ap (λ v. get_or source (v * s + b) 0) q in
    take-put_mid (e * s) k out part ((e + 1) * s) (n ∙ ap (λ v. e * s + v) (sym lpart)) (omega arith) ∙ ap (λ v. v ++ part) i ∙ gathered_more g s e source part lpart at
    ∙ ap (λ v. gathered (by_element g s) v source) (sym n)
