-- Slabs of a list, lists joined, and these laid over slabs.
use Rattle.std.proofs.Common.{◌≡◌, ℕ, zero, suc, ◌+◌, ◌-◌, ◌*◌, ◌<◌, ◌≤◌, List, ◌++◌, length, take, drop, refl, sym, ap, subst, ◌∙◌, arith, ⊎_elim, add-one, add-mul, zero-mul, one-mul, mul-le-mul_right, take-add, take_at, drop_at, drop-drop, length-take-le, length-append, length-drop, append_assoc, take-append-drop}
use borrow.Rule.Slice.PartMut.{put_mid}
use Rattle.std.proofs.lemmas.Bool.{cases_lt}
use Rattle.std.proofs.lemmas.List.{take_all, take-append-le, drop-append-le}
use Rattle.std.proofs.lemmas.Nat.{row_fits}
use Rattle.subset.specs.Subsets.{slab, joined}

-- slab k of n slabs of w bytes
pub slab_inside : (k n w m : ℕ) → k < n → m ≡ n * w → k * w + w ≤ m
slab_inside k n w m h e = omega (arith, row_fits k w n w h (omega arith))

-- a row of l elements from element s on, of n elements of w bytes
pub row_inside : (s l n w m : ℕ) → s + l ≤ n → m ≡ n * w → s * w + l * w ≤ m
row_inside s l n w m h e = omega (arith, add-mul s l w, mul-le-mul_right w h)

pub joined_more : (f : ℕ → List ℕ) (k : ℕ) → joined f (k + 1) ≡ joined f k ++ f k
unfolding joined
joined_more f k = rw add-one refl

-- slabs in a row are one part
pub joined_slabs : (w b n : ℕ) (x : List ℕ) → joined (λ k. slab w (b + k) x) n ≡ take (n * w) (drop (b * w) x)
unfolding joined
joined_slabs w b zero x = rw zero-mul refl
joined_slabs w b (suc n) x =
    let e : suc n * w ≡ n * w + w = omega arith in
    ap (λ v. v ++ take w (drop ((b + n) * w) x)) (joined_slabs w b n x)
    ∙ ap (λ v. take (n * w) (drop (b * w) x) ++ take w v) (ap (λ v. drop v x) (add-mul b n w) ∙ sym (drop-drop (n * w) (b * w) x))
    ∙ sym (take-add (n * w) w (drop (b * w) x))
    ∙ ap (λ v. take v (drop (b * w) x)) (sym e)

pub joined_first : (w n : ℕ) (x : List ℕ) → joined (λ k. slab w k x) n ≡ take (n * w) x
unfolding joined
joined_first w zero x = rw zero-mul refl
joined_first w (suc n) x =
    let e : suc n * w ≡ n * w + w = omega arith in
    ap (λ v. v ++ take w (drop (n * w) x)) (joined_first w n x) ∙ sym (take-add (n * w) w x) ∙ ap (λ v. take v x) (sym e)

pub length_slab : (w k : ℕ) (x : List ℕ) → k * w + w ≤ length x → length (slab w k x) ≡ w
length_slab w k x h = length-take-le w (drop (k * w) x) (omega (arith, length-drop (k * w) x))

-- a slab of one of two lists
pub slab_left : (w i : ℕ) (xs ys : List ℕ) → i * w + w ≤ length xs → slab w i (xs ++ ys) ≡ slab w i xs
slab_left w i xs ys h = ap (take w) (drop-append-le (i * w) xs ys (omega arith)) ∙ take-append-le w (drop (i * w) xs) ys (omega (arith, length-drop (i * w) xs))

pub slab_right : (w b k : ℕ) (xs ys : List ℕ) → length xs ≡ b * w → slab w (b + k) (xs ++ ys) ≡ slab w k ys
slab_right w b k xs ys h =
    ap (λ v. take w (drop v (xs ++ ys))) (add-mul b k w)
    ∙ ap (take w) (sym (drop-drop (k * w) (b * w) (xs ++ ys)))
    ∙ ap (λ v. take w (drop (k * w) v)) (drop_at xs ys (b * w) h)

-- where each list has v bytes
pub joined_length : (f : ℕ → List ℕ) (v n : ℕ) → ((k : ℕ) → k < n → length (f k) ≡ v) → length (joined f n) ≡ n * v
unfolding joined
joined_length f v zero h = sym (zero-mul v)
joined_length f v (suc n) h =
    let e : suc n * v ≡ n * v + v = omega arith in
    length-append (joined f n) (f n) ∙ omega (arith, joined_length f v n (λ k l. h k (omega arith)), h n (omega arith))

pub joined_same : (f g : ℕ → List ℕ) (n : ℕ) → ((k : ℕ) → k < n → f k ≡ g k) → joined f n ≡ joined g n
unfolding joined
joined_same f g zero h = refl
joined_same f g (suc n) h = ap (λ v. v ++ f n) (joined_same f g n (λ k l. h k (omega arith))) ∙ ap (λ v. joined g n ++ v) (h n (omega arith))

pub joined_slab : (f : ℕ → List ℕ) (v n j : ℕ) → ((k : ℕ) → k < n → length (f k) ≡ v) → j < n → slab v j (joined f n) ≡ f j
unfolding joined
joined_slab f v zero j h l = absurd (omega arith)
joined_slab f v (suc n) j h l =
    let m = joined_length f v n (λ k q. h k (omega arith)) in
    ⊎_elim
    (λ (lt : j < n). slab_left v j (joined f n) (f n) (slab_inside j n v _ lt m) ∙ joined_slab f v n j (λ k q. h k (omega arith)) lt)
    (λ (ge : n ≤ j).
    let e : j ≡ n = omega arith in
    subst (λ i. slab v i (joined f n ++ f n) ≡ f i) (sym e) (ap (take v) (drop_at (joined f n) (f n) (n * v) m) ∙ take_all v (f n) (omega (arith, h n (omega arith)))))
    (cases_lt j n)

-- n lists laid over the slabs from b on
abbrev pub over : (ℕ → List ℕ) → ℕ → ℕ → ℕ → List ℕ → List ℕ
over f w b n x = take (b * w) x ++ (joined f n ++ drop ((b + n) * w) x)

pub over_none : (f : ℕ → List ℕ) (w b : ℕ) (x : List ℕ) → over f w b 0 x ≡ x
unfolding joined
over_none f w b x =
    let z : b + 0 ≡ b = omega arith in
    ap (λ v. take (b * w) x ++ drop (v * w) x) z ∙ take-append-drop (b * w) x

module _ (f : ℕ → List ℕ) (w b n : ℕ) (x : List ℕ) (h : (k : ℕ) → k < n → length (f k) ≡ w) (r : b * w + n * w ≤ length x) where
  length_front : length (take (b * w) x) ≡ b * w
  length_front = length-take-le (b * w) x (omega arith)

  length_before : length (take (b * w) x ++ joined f n) ≡ (b + n) * w
  length_before = length-append (take (b * w) x) (joined f n) ∙ omega (arith, length_front, joined_length f w n h, add-mul b n w)

  split : over f w b n x ≡ (take (b * w) x ++ joined f n) ++ drop ((b + n) * w) x
  split = sym (append_assoc (take (b * w) x) (joined f n) (drop ((b + n) * w) x))

  pub length_over : length (over f w b n x) ≡ length x
  length_over = ap length split ∙ length-append (take (b * w) x ++ joined f n) (drop ((b + n) * w) x) ∙ omega (arith, length_before, length-drop ((b + n) * w) x, add-mul b n w)

  -- the slabs before them, theirs, and those behind
  pub slab_before : (i : ℕ) → i < b → slab w i (over f w b n x) ≡ slab w i x
  slab_before i l =
      let e = slab_inside i b w _ l length_front in
      slab_left w i (take (b * w) x) _ e ∙ sym (slab_left w i (take (b * w) x) (drop (b * w) x) e) ∙ ap (slab w i) (take-append-drop (b * w) x)

  pub slab_in : (k : ℕ) → k < n → slab w (b + k) (over f w b n x) ≡ f k
  slab_in k l =
      slab_right w b k (take (b * w) x) _ length_front ∙ slab_left w k (joined f n) _ (slab_inside k n w _ l (joined_length f w n h)) ∙ joined_slab f w n k h l

  pub slab_behind : (i : ℕ) → b + n ≤ i → slab w i (over f w b n x) ≡ slab w i x
  slab_behind i l =
      let e : i ≡ (b + n) + (i - (b + n)) = omega arith in
      subst (λ v. slab w v (over f w b n x) ≡ slab w v x) (sym e)
      (ap (slab w ((b + n) + (i - (b + n)))) split
      ∙ slab_right w (b + n) (i - (b + n)) (take (b * w) x ++ joined f n) (drop ((b + n) * w) x) length_before
      ∙ ap (take w) (drop-drop ((i - (b + n)) * w) ((b + n) * w) x ∙ ap (λ v. drop v x) (sym (add-mul (b + n) (i - (b + n)) w))))

  -- one list more
  pub over_more : (at u : ℕ) → at ≡ (b + n) * w → u ≡ w → put_mid at u (over f w b n x) (f n) ≡ over f w b (n + 1) x
  over_more at u e q =
      let l = length_before ∙ sym e in
      let t : take at (over f w b n x) ≡ take (b * w) x ++ joined f n = ap (take at) split ∙ take_at (take (b * w) x ++ joined f n) _ at l in
      let m : (b + n) * w + w ≡ (b + (n + 1)) * w = omega (arith, add-mul (b + n) 1 w, one-mul w) in
      let d : drop u (drop at (over f w b n x)) ≡ drop ((b + (n + 1)) * w) x =
      ap (λ v. drop v (drop at (over f w b n x))) q ∙ ap (λ v. drop w (drop at v)) split ∙ ap (drop w) (drop_at (take (b * w) x ++ joined f n) _ at l)
      ∙ drop-drop w ((b + n) * w) x ∙ ap (λ v. drop v x) m in
      ap (λ v. v ++ (f n ++ drop u (drop at (over f w b n x)))) t
      ∙ ap (λ v. (take (b * w) x ++ joined f n) ++ (f n ++ v)) d
      ∙ append_assoc (take (b * w) x) (joined f n) _
      ∙ ap (λ v. take (b * w) x ++ v) (sym (append_assoc (joined f n) (f n) _))
      ∙ ap (λ v. take (b * w) x ++ (v ++ drop ((b + (n + 1)) * w) x)) (sym (joined_more f n))
