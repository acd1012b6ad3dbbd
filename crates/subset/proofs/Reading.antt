-- How a subset is read, in the words of the function that reads it.
use Rattle.std.proofs.Common.{◌≡◌, ℕ, ◌+◌, ◌-◌, ◌*◌, ◌/◌, ◌<◌, ◌≤◌, true, List, [], ◌∷◌, ◌++◌, length, one-mul, zero-add, zero-mul, append-nil, take, drop, refl, sym, ap, ◌∙◌, arith}
use Rattle.std.proofs.lemmas.List.{drop_all, nil_from_length}
use Rattle.std.specs.List.{between}
use Rattle.form.specs.Shapes.{product}
use Rattle.subset.specs.Subsets.{inside, slab, joined, subset_of}
use Rattle.subset.proofs.Joined.{joined_slabs, length_slab, over, over_none, over_more}
use Rattle.subset.proofs.Subsets.{length_of}
use Rattle.subset.proofs.Sizes.{inside_lengths}
use borrow.Rule.Slice.PartMut.{put_mid}
use Rattle.subset.proofs.Slabs.{head, tail, peel, at_axis, last, row_fits_in, width, part, slab_fits, length_part}

-- the last axis: a row of the array
pub row_source : (array start shape : List ℕ) (size a : ℕ) → length array ≡ 1 → inside array start shape ≡ true → a ≡ product array * size → head start * size + head shape * size ≤ a
row_source array start shape size a one h w = (row_fits_in (peel (omega arith) h w refl) one).0

pub row_target : (array start shape : List ℕ) (size o : ℕ) → length array ≡ 1 → inside array start shape ≡ true → o ≡ product shape * size → o ≡ head shape * size
row_target array start shape size o one h r = (row_fits_in (peel (omega arith) h refl r) one).1

pub row_read : (array start shape : List ℕ) (size : ℕ) (x : List ℕ) → length array ≡ 1 → inside array start shape ≡ true
    → subset_of array start shape size x ≡ take (head shape * size) (drop (head start * size) x)
unfolding subset_of
row_read array start shape size x one h =
    let p = peel {size = size} (omega arith) h refl refl in
    let z : product [] * size ≡ size = one-mul size in
    at_axis p (λ a b c. subset_of a b c size x)
    ∙ ap (λ v. subset_of (head array ∷ v) (head start ∷ tail start) (head shape ∷ tail shape) size x) (last p one).0
    ∙ ap (λ v. joined (λ k. slab v (head start + k) x) (head shape)) z
    ∙ joined_slabs size (head start) (head shape) x

-- no index on the first axis
pub none_read : (array start shape : List ℕ) (size : ℕ) (x out : List ℕ) → 0 < length array → inside array start shape ≡ true → length out ≡ product shape * size → head shape ≡ 0
    → out ≡ subset_of array start shape size x
unfolding subset_of joined
none_read array start shape size x out some h r z =
    let p = peel {size = size} some h refl r in
    let o : length out ≡ 0 = p.room ∙ ap (λ v. v * (product (tail shape) * size)) z ∙ zero-mul (product (tail shape) * size) in
    nil_from_length out o
    ∙ sym (at_axis p (λ a b c. subset_of a b c size x) ∙ ap (λ v. subset_of (head array ∷ tail array) (head start ∷ tail start) (v ∷ tail shape) size x) z)

pub inner_inside : (array start shape : List ℕ) → 0 < length array → inside array start shape ≡ true → inside (tail array) (tail start) (tail shape) ≡ true
inner_inside array start shape some h = (peel {size = 1} some h refl refl).inner

pub slab_whole : (array start shape : List ℕ) (size k : ℕ) (x z : List ℕ) → 0 < length array → inside array start shape ≡ true → length x ≡ product array * size → k < head shape
    → z ≡ slab (length x / head array) (head start + k) x → length z ≡ product (tail array) * size
slab_whole array start shape size k x z some h w l e =
    let p = peel some h w refl in ap length e ∙ length_slab _ _ x (slab_fits p k l).0 ∙ width p (omega arith)

pub part_room : (array start shape : List ℕ) (size k : ℕ) (old now : List ℕ) → 0 < length array → inside array start shape ≡ true → length old ≡ product shape * size → k < head shape
    → length now ≡ length old
    → length (between (k * (length old / head shape)) (k * (length old / head shape) + length old / head shape) now) ≡ product (tail shape) * size
part_room array start shape size k old now some h r l e =
    let p = peel some h refl r in length_part _ _ now (omega (arith, (slab_fits p k l).1)) ∙ part p (omega arith)

-- what a slab of the array has of the subset
abbrev slab_read : List ℕ → List ℕ → List ℕ → ℕ → List ℕ → ℕ → List ℕ
slab_read array start shape size x k = subset_of (tail array) (tail start) (tail shape) size (slab (length x / head array) (head start + k) x)

-- the output when k slabs are read
unfoldable pub read_to : List ℕ → List ℕ → List ℕ → ℕ → List ℕ → List ℕ → ℕ → List ℕ
read_to array start shape size x old k = over (slab_read array start shape size x) (length old / head shape) 0 k old

pub read_begun : (array start shape : List ℕ) (size : ℕ) (x old : List ℕ) → read_to array start shape size x old 0 ≡ old
unfolding read_to
read_begun array start shape size x old = over_none (slab_read array start shape size x) (length old / head shape) 0 old

module _ (array start shape : List ℕ) (size : ℕ) (x old : List ℕ) (some : 0 < length array) (h : inside array start shape ≡ true) (w : length x ≡ product array * size) (r : length old ≡ product shape * size) where
  length_read : (k : ℕ) → k < head shape → length (slab_read array start shape size x k) ≡ length old / head shape
  length_read k l =
      let p = peel some h w r in
      length_of (tail array) (tail start) (tail shape) size p.inner _ (slab_whole array start shape size k x _ some h w l refl) ∙ sym (part p (omega arith))

  pub read_more : (k : ℕ) → k < head shape
      → read_to array start shape size x old (k + 1)
      ≡ put_mid (k * (length old / head shape)) (k * (length old / head shape) + length old / head shape - k * (length old / head shape)) (read_to array start shape size x old k)
      (slab_read array start shape size x k)
  unfolding read_to
  read_more k l =
      let q = (slab_fits (peel some h w r) k l).1 in
      let z : 0 * (length old / head shape) + k * (length old / head shape) ≤ length old = omega (arith, q) in
      let y = zero-add k in
      sym (over_more (slab_read array start shape size x) (length old / head shape) 0 k old (λ j m. length_read j (omega arith)) z _ _ (rw y refl) (omega arith))

  pub read_ended : (k : ℕ) → 0 < head shape → k ≡ head shape → read_to array start shape size x old k ≡ subset_of array start shape size x
  unfolding read_to subset_of
  read_ended k z e =
      let p = peel some h w r in
      let m : k * (length old / head shape) ≡ length old = ap (λ v. v * (length old / head shape)) e ∙ ap (λ v. head shape * v) (part p z) ∙ sym p.room in
      let y = zero-add k in
      ap (λ v. take v old ++ (joined (slab_read array start shape size x) k ++ drop ((0 + k) * (length old / head shape)) old)) (zero-mul (length old / head shape))
      ∙ ap (λ v. joined (slab_read array start shape size x) k ++ v) (rw y (drop_all (k * (length old / head shape)) old (omega arith)))
      ∙ append-nil _
      ∙ ap (joined (slab_read array start shape size x)) e
      ∙ ap (λ v. joined (λ k. subset_of (tail array) (tail start) (tail shape) size (slab v (head start + k) x)) (head shape)) (width p z)
      ∙ sym (at_axis p (λ a b c. subset_of a b c size x))

-- what the function that reads rests on
pub ruleset reading = (inside_lengths, row_source, row_target, row_read, none_read, inner_inside, slab_whole, part_room, read_begun, read_more, read_ended)
