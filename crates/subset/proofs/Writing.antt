-- How a subset is written, in the words of the function that writes it.
use Rattle.std.proofs.Common.{◌≡◌, ℕ, ◌+◌, ◌-◌, ◌*◌, ◌/◌, ◌<◌, ◌≤◌, true, List, [], ◌∷◌, ◌++◌, length, one-mul, take, drop, refl, sym, ap, ◌∙◌, arith, add-mul, le_of_eq}
use Rattle.std.proofs.lemmas.List.{take_all}
use Rattle.std.specs.List.{between}
use borrow.Rule.Slice.PartMut.{put_mid}
use Rattle.form.specs.Shapes.{product}
use Rattle.subset.specs.Subsets.{inside, slab, put_subset}
use Rattle.subset.proofs.Joined.{joined_first, length_slab, over, over_none, over_more, slab_behind}
use Rattle.subset.proofs.Subsets.{length_put}
use Rattle.subset.proofs.Sizes.{inside_lengths}
use Rattle.subset.proofs.Reading.{row_source, row_target, inner_inside}
use Rattle.subset.proofs.Slabs.{head, tail, peel, at_axis, last, row_fits_in, width, part, slab_fits, length_part}

pub row_written : (array start shape : List ℕ) (size : ℕ) (d x : List ℕ) → length array ≡ 1 → inside array start shape ≡ true → length d ≡ product shape * size
    → put_subset array start shape size d x ≡ take (head start * size) x ++ (d ++ drop (head start * size + head shape * size) x)
unfolding put_subset
row_written array start shape size d x one h r =
    let p = peel {size = size} (omega arith) h refl r in
    let e : length d ≡ head shape * size = (row_fits_in p one).1 in
    let z : product [] * size ≡ size = one-mul size in
    at_axis p (λ a b c. put_subset a b c size d x)
    ∙ ap (λ v. put_subset (head array ∷ v) (head start ∷ tail start) (head shape ∷ tail shape) size d x) (last p one).0
    ∙ ap (λ v. put_subset (head array ∷ []) (head start ∷ tail start) (head shape ∷ v) size d x) (last p one).1
    ∙ ap (λ v. over (λ k. slab v k d) v (head start) (head shape) x) z
    ∙ ap (λ v. take (head start * size) x ++ (v ++ drop ((head start + head shape) * size) x)) (joined_first size (head shape) d ∙ take_all (head shape * size) d (le_of_eq e))
    ∙ ap (λ v. take (head start * size) x ++ (d ++ drop v x)) (add-mul (head start) (head shape) size)

pub none_written : (array start shape : List ℕ) (size : ℕ) (d x : List ℕ) → 0 < length array → inside array start shape ≡ true → head shape ≡ 0 → put_subset array start shape size d x ≡ x
unfolding put_subset
none_written array start shape size d x some h z =
    let p = peel {size = size} some h refl refl in
    at_axis p (λ a b c. put_subset a b c size d x)
    ∙ ap (λ v. put_subset (head array ∷ tail array) (head start ∷ tail start) (v ∷ tail shape) size d x) z
    ∙ over_none _ (product (tail array) * size) (head start) x

pub part_whole : (array start shape : List ℕ) (size k : ℕ) (d z : List ℕ) → 0 < length array → inside array start shape ≡ true → length d ≡ product shape * size → k < head shape
    → z ≡ slab (length d / head shape) k d → length z ≡ product (tail shape) * size
part_whole array start shape size k d z some h r l e =
    let p = peel some h refl r in ap length e ∙ length_slab _ _ d (slab_fits p k l).1 ∙ part p (omega arith)

pub slab_room : (array start shape : List ℕ) (size k : ℕ) (old now : List ℕ) → 0 < length array → inside array start shape ≡ true → length old ≡ product array * size → k < head shape
    → length now ≡ length old
    → length (between ((head start + k) * (length old / head array)) ((head start + k) * (length old / head array) + length old / head array) now) ≡ product (tail array) * size
slab_room array start shape size k old now some h w l e =
    let p = peel some h w refl in length_part _ _ now (omega (arith, (slab_fits p k l).0)) ∙ width p (omega arith)

-- a slab of the array with its part of the subset
abbrev slab_written : List ℕ → List ℕ → List ℕ → ℕ → List ℕ → List ℕ → ℕ → List ℕ
slab_written array start shape size d x k =
    put_subset (tail array) (tail start) (tail shape) size (slab (length d / head shape) k d) (slab (length x / head array) (head start + k) x)

-- the array when k slabs are written
unfoldable pub written_to : List ℕ → List ℕ → List ℕ → ℕ → List ℕ → List ℕ → ℕ → List ℕ
written_to array start shape size d x k = over (slab_written array start shape size d x) (length x / head array) (head start) k x

pub write_begun : (array start shape : List ℕ) (size : ℕ) (d x : List ℕ) → written_to array start shape size d x 0 ≡ x
unfolding written_to
write_begun array start shape size d x = over_none (slab_written array start shape size d x) (length x / head array) (head start) x

module _ (array start shape : List ℕ) (size : ℕ) (d x : List ℕ) (some : 0 < length array) (h : inside array start shape ≡ true) (w : length x ≡ product array * size) (r : length d ≡ product shape * size) where
  length_written : (k : ℕ) → k < head shape → length (slab_written array start shape size d x k) ≡ length x / head array
  length_written k l =
      let p = peel some h w r in
      let u = length_slab (length x / head array) (head start + k) x (slab_fits p k l).0 in
      length_put (tail array) (tail start) (tail shape) size p.inner _ _ (part_whole array start shape size k d _ some h r l refl) (u ∙ width p (omega arith)) ∙ u

  slabs_left : (k : ℕ) → k < head shape → head start * (length x / head array) + k * (length x / head array) ≤ length x
  slabs_left k l = omega (arith, (slab_fits (peel some h w r) k l).0, add-mul (head start) k (length x / head array))

  -- the slab that comes next is as it was
  pub write_next : (k : ℕ) → k < head shape
      → between ((head start + k) * (length x / head array)) ((head start + k) * (length x / head array) + length x / head array) (written_to array start shape size d x k)
      ≡ slab (length x / head array) (head start + k) x
  unfolding written_to
  write_next k l =
      let a : ℕ = (head start + k) * (length x / head array) in
      let z : a + length x / head array - a ≡ length x / head array = omega arith in
      ap (λ v. take v (drop a (over (slab_written array start shape size d x) (length x / head array) (head start) k x))) z
      ∙ slab_behind (slab_written array start shape size d x) (length x / head array) (head start) k x (λ j m. length_written j (omega arith)) (slabs_left k l) (head start + k) (omega arith)

  pub write_more : (k : ℕ) → k < head shape
      → written_to array start shape size d x (k + 1)
      ≡ put_mid ((head start + k) * (length x / head array)) ((head start + k) * (length x / head array) + length x / head array - (head start + k) * (length x / head array))
      (written_to array start shape size d x k) (slab_written array start shape size d x k)
  unfolding written_to
  write_more k l =
      sym (over_more (slab_written array start shape size d x) (length x / head array) (head start) k x (λ j m. length_written j (omega arith)) (slabs_left k l) _ _ refl (omega arith))

  pub write_ended : (k : ℕ) → 0 < head shape → k ≡ head shape → written_to array start shape size d x k ≡ put_subset array start shape size d x
  unfolding written_to put_subset
  write_ended k z e =
      let p = peel some h w r in
      ap (λ v. over (slab_written array start shape size d x) (length x / head array) (head start) v x) e
      ∙ ap (λ v. over (λ k. put_subset (tail array) (tail start) (tail shape) size (slab (length d / head shape) k d) (slab v (head start + k) x)) v (head start) (head shape) x) (width p z)
      ∙ ap (λ v. over (λ k. put_subset (tail array) (tail start) (tail shape) size (slab v k d) (slab (product (tail array) * size) (head start + k) x)) (product (tail array) * size) (head start) (head shape) x) (part p z)
      ∙ sym (at_axis p (λ a b c. put_subset a b c size d x))

-- what the function that writes rests on
pub ruleset writing = (inside_lengths, row_source, row_target, inner_inside, row_written, none_written, part_whole, slab_room, write_begun, write_next, write_more, write_ended)
