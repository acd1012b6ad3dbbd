-- The laws of subsets, by the slabs that a written subset leaves.
use Rattle.std.proofs.Common.{◌≡◌, ℕ, ◌+◌, ◌-◌, ◌*◌, ◌<◌, ◌≤◌, true, ◌⊎◌, List, [], ◌∷◌, length, take, drop, inl, inr, refl, sym, ap, subst, ◌∙◌, arith, ⊎_elim, mul_assoc, one-mul, drop-drop, take-take}
use Rattle.std.proofs.lemmas.Bool.{cases_lt}
use Rattle.std.proofs.lemmas.List.{take_all, drop-take}
use Rattle.form.specs.Shapes.{product}
use Rattle.subset.specs.Subsets.{inside, slab, joined, subset_of, put_subset}
use Rattle.subset.specs.Laws.{Index, Outside, shifted, place, element, Lawful, Figures}
use Rattle.subset.proofs.Sizes.{by_axis}
use Rattle.subset.proofs.Joined.{slab_inside, joined_first, joined_same, joined_slab, slab_before, slab_in, slab_behind}
use Rattle.subset.proofs.Subsets.{slab_of, length_of, slabs_inside, length_put}

-- a fact of an index on each axis
no_index : (P : List ℕ → Type 0) → P [] → (is : List ℕ) → Index [] is → P is
no_index P z [] h = z
no_index P z (i ∷ is) h = absurd h

by_index : (P : List ℕ → Type 0) (n : ℕ) (ns : List ℕ) → ((i : ℕ) (is : List ℕ) → i < n → Index ns is → P (i ∷ is)) → (is : List ℕ) → Index (n ∷ ns) is → P is
by_index P n ns more [] h = absurd h
by_index P n ns more (i ∷ is) h = more i is h.0 h.1

-- an element ends inside the array
place_inside : (shape : List ℕ) (size : ℕ) (is : List ℕ) → Index shape is → place shape size is + size ≤ product shape * size
place_inside [] size [] h = omega (arith, one-mul size)
place_inside [] size (i ∷ is) h = absurd h
place_inside (n ∷ ns) size [] h = absurd h
place_inside (n ∷ ns) size (i ∷ is) h =
    omega (arith, place_inside ns size is h.1, slab_inside i n (product ns * size) (n * (product ns * size)) h.0 refl, mul_assoc n (product ns) size)

-- an element of a slab is an element of the whole
in_slab : (w i p size : ℕ) (x : List ℕ) → p + size ≤ w → take size (drop p (slab w i x)) ≡ take size (drop (i * w + p) x)
in_slab w i p size x h =
    let e : w ≡ p + (w - p) = omega arith in
    ap (λ v. take size (drop p (take v (drop (i * w) x)))) e
    ∙ ap (take size) (drop-take p (w - p) (drop (i * w) x))
    ∙ take-take size (w - p) (drop p (drop (i * w) x)) (omega arith)
    ∙ ap (take size) (drop-drop p (i * w) x)

element_in : (n i : ℕ) (ns : List ℕ) (size : ℕ) (is x : List ℕ) → Index ns is → element ns size is (slab (product ns * size) i x) ≡ element (n ∷ ns) size (i ∷ is) x
element_in n i ns size is x h = in_slab (product ns * size) i (place ns size is) size x (place_inside ns size is h)

shifted_index : (array start shape : List ℕ) → inside array start shape ≡ true → (js : List ℕ) → Index shape js → Index array (shifted start js)
shifted_index = by_axis (λ ns ss ls. (js : List ℕ) → Index ls js → Index ns (shifted ss js))
    (no_index (λ js. Index [] (shifted [] js)) tt)
    (λ n s l ns ss ls f i h. by_index (λ js. Index (n ∷ ns) (shifted (s ∷ ss) js)) l ls (λ j js q r. (omega arith, h js r)))

read_element : (array start shape : List ℕ) (size : ℕ) → inside array start shape ≡ true → (x js : List ℕ) → length x ≡ product array * size → Index shape js
    → element shape size js (subset_of array start shape size x) ≡ element array size (shifted start js) x
unfolding subset_of
read_element array start shape size = by_axis (λ ns ss ls. (x js : List ℕ) → length x ≡ product ns * size → Index ls js → element ls size js (subset_of ns ss ls size x) ≡ element ns size (shifted ss js) x)
    (λ x js e. no_index (λ js. element [] size js x ≡ element [] size (shifted [] js) x) refl js)
    (λ n s l ns ss ls f i h x js e.
    by_index (λ js. element (l ∷ ls) size js (joined (λ k. subset_of ns ss ls size (slab (product ns * size) (s + k) x)) l) ≡ element (n ∷ ns) size (shifted (s ∷ ss) js) x) l ls
    (λ j js q r.
    let z : (k : ℕ) → k < l → length (slab (product ns * size) (s + k) x) ≡ product ns * size = λ k u. slab_of n ns size (s + k) x (omega arith) e in
    sym (element_in l j ls size js _ r)
    ∙ ap (element ls size js) (joined_slab _ (product ls * size) l j (λ k u. length_of ns ss ls size i _ (z k u)) q)
    ∙ h (slab (product ns * size) (s + j) x) js (z j q) r
    ∙ element_in n (s + j) ns size (shifted ss js) x (shifted_index ns ss ls i js r))
    js)
    array start shape

-- the slabs of an array with a subset written
module _ (n s l : ℕ) (ns ss ls : List ℕ) (size : ℕ) (f : s + l ≤ n) (i : inside ns ss ls ≡ true) (d x : List ℕ) (g : length d ≡ product (l ∷ ls) * size) (e : length x ≡ product (n ∷ ns) * size) where
  abbrev array_slab : ℕ → List ℕ
  array_slab k = slab (product ns * size) (s + k) x

  abbrev new_slab : ℕ → List ℕ
  new_slab k = put_subset ns ss ls size (slab (product ls * size) k d) (array_slab k)

  abbrev new : List ℕ
  new = put_subset (n ∷ ns) (s ∷ ss) (l ∷ ls) size d x

  array_slab_length : (k : ℕ) → k < l → length (array_slab k) ≡ product ns * size
  array_slab_length k q = slab_of n ns size (s + k) x (omega arith) e

  new_slab_length : (k : ℕ) → k < l → length (new_slab k) ≡ product ns * size
  new_slab_length k q = length_put ns ss ls size i _ _ (slab_of l ls size k d q g) (array_slab_length k q) ∙ array_slab_length k q

  new_before : (k : ℕ) → k < s → slab (product ns * size) k new ≡ slab (product ns * size) k x
  unfolding put_subset
  new_before = slab_before new_slab (product ns * size) s l x new_slab_length (slabs_inside n s l ns size x f e)

  new_in : (k : ℕ) → k < l → slab (product ns * size) (s + k) new ≡ new_slab k
  unfolding put_subset
  new_in = slab_in new_slab (product ns * size) s l x new_slab_length (slabs_inside n s l ns size x f e)

  new_behind : (k : ℕ) → s + l ≤ k → slab (product ns * size) k new ≡ slab (product ns * size) k x
  unfolding put_subset
  new_behind = slab_behind new_slab (product ns * size) s l x new_slab_length (slabs_inside n s l ns size x f e)

  back_more : ((k : ℕ) → k < l → subset_of ns ss ls size (new_slab k) ≡ slab (product ls * size) k d) → subset_of (n ∷ ns) (s ∷ ss) (l ∷ ls) size new ≡ d
  unfolding subset_of
  back_more r =
      joined_same _ (λ k. slab (product ls * size) k d) l (λ k q. ap (subset_of ns ss ls size) (new_in k q) ∙ r k q)
      ∙ joined_first (product ls * size) l d
      ∙ take_all _ d (omega (arith, g, mul_assoc l (product ls) size))

read_back : (array start shape : List ℕ) (size : ℕ) → inside array start shape ≡ true → (d x : List ℕ) → length d ≡ product shape * size → length x ≡ product array * size
    → subset_of array start shape size (put_subset array start shape size d x) ≡ d
unfolding subset_of put_subset
read_back array start shape size = by_axis (λ ns ss ls. (d x : List ℕ) → length d ≡ product ls * size → length x ≡ product ns * size → subset_of ns ss ls size (put_subset ns ss ls size d x) ≡ d)
    (λ d x g e. refl)
    (λ n s l ns ss ls f i h d x g e. back_more n s l ns ss ls size f i d x g e (λ k q. h _ _ (slab_of l ls size k d q g) (array_slab_length n s l ns ss ls size f i d x g e k q)))
    array start shape

kept : (array start shape : List ℕ) (size : ℕ) → inside array start shape ≡ true → (d x is : List ℕ) → length d ≡ product shape * size → length x ≡ product array * size
    → Index array is → Outside start shape is → element array size is (put_subset array start shape size d x) ≡ element array size is x
kept array start shape size = by_axis (λ ns ss ls. (d x is : List ℕ) → length d ≡ product ls * size → length x ≡ product ns * size → Index ns is → Outside ss ls is
    → element ns size is (put_subset ns ss ls size d x) ≡ element ns size is x)
    (λ d x is g e z o. absurd o)
    (λ n s l ns ss ls f i h d x is g e z.
    by_index (λ is. Outside (s ∷ ss) (l ∷ ls) is → element (n ∷ ns) size is (put_subset (n ∷ ns) (s ∷ ss) (l ∷ ls) size d x) ≡ element (n ∷ ns) size is x) n ns
    (λ p is q r o.
    sym (element_in n p ns size is (put_subset (n ∷ ns) (s ∷ ss) (l ∷ ls) size d x) r)
    ∙ ⊎_elim
    (λ (lt : p < s). ap (element ns size is) (new_before n s l ns ss ls size f i d x g e p lt))
    (λ (ge : s ≤ p). ⊎_elim
    (λ (lt : p < s + l).
    let u : s + (p - s) ≡ p = omega arith in
    let m : p - s < l = omega arith in
    let rest : Outside ss ls is = ⊎_elim (λ (b : p < s). absurd (omega arith)) (λ v. ⊎_elim (λ (b : s + l ≤ p). absurd (omega arith)) (λ (y : Outside ss ls is). y) v) o in
    subst (λ v. element ns size is (slab (product ns * size) v (put_subset (n ∷ ns) (s ∷ ss) (l ∷ ls) size d x)) ≡ element ns size is (slab (product ns * size) v x)) u
    (ap (element ns size is) (new_in n s l ns ss ls size f i d x g e (p - s) m)
    ∙ h (slab (product ls * size) (p - s) d) (slab (product ns * size) (s + (p - s)) x) is (slab_of l ls size (p - s) d m g) (array_slab_length n s l ns ss ls size f i d x g e (p - s) m) r rest))
    (λ (b : s + l ≤ p). ap (element ns size is) (new_behind n s l ns ss ls size f i d x g e p b))
    (cases_lt p (s + l)))
    (cases_lt p s)
    ∙ element_in n p ns size is x r)
    is z)
    array start shape

either : (array start shape : List ℕ) → inside array start shape ≡ true → (is : List ℕ) → Index array is → Outside start shape is ⊎ ((js : List ℕ) × Index shape js × (shifted start js ≡ is))
either = by_axis (λ ns ss ls. (is : List ℕ) → Index ns is → Outside ss ls is ⊎ ((js : List ℕ) × Index ls js × (shifted ss js ≡ is)))
    (no_index (λ is. Outside [] [] is ⊎ ((js : List ℕ) × Index [] js × (shifted [] js ≡ is))) (inr ([], tt, refl)))
    (λ n s l ns ss ls f i h. by_index (λ is. Outside (s ∷ ss) (l ∷ ls) is ⊎ ((js : List ℕ) × Index (l ∷ ls) js × (shifted (s ∷ ss) js ≡ is))) n ns
    (λ p is q r. ⊎_elim
    (λ (lt : p < s). inl (inl lt))
    (λ (ge : s ≤ p). ⊎_elim
    (λ (lt : p < s + l). ⊎_elim
    (λ (o : Outside ss ls is). inl (inr (inr o)))
    (λ (w : (js : List ℕ) × Index ls js × (shifted ss js ≡ is)).
    let u : s + (p - s) ≡ p = omega arith in
    inr ((p - s) ∷ w.0, (omega arith, w.1), ap (λ v. v ∷ shifted ss w.0) u ∙ ap (λ v. p ∷ v) w.2))
    (h is r))
    (λ (b : s + l ≤ p). inl (inr (inl b)))
    (cases_lt p (s + l)))
    (cases_lt p s)))

pub lawful : Lawful
lawful array start shape size h = record {
  read_length = length_of array start shape size h;
  write_length = length_put array start shape size h;
  read_back = read_back array start shape size h;
  read_element = read_element array start shape size h;
  written = λ d x js g e j.
      sym (read_element array start shape size h (put_subset array start shape size d x) js (length_put array start shape size h d x g e ∙ e) j)
      ∙ ap (element shape size js) (read_back array start shape size h d x g e);
  kept = kept array start shape size h;
  either = either array start shape h;
}

pub worked : Figures
unfolding subset_of put_subset joined
worked = record {
  one_axis = refl;
  two_axes = refl;
  three_axes = refl;
  four_axes = refl;
  column = refl;
  rows = refl;
  none_read = λ x. refl;
  none_written = refl;
}
