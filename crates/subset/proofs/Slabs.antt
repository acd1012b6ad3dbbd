-- The first axis of a subset: its row where there is no other, and its slabs.
use Rattle.std.proofs.Common.{◌≡◌, ℕ, ◌+◌, ◌-◌, ◌*◌, ◌/◌, ◌<◌, ◌≤◌, true, List, [], ◌∷◌, length, get_or, drop, sym, ap, ◌∙◌, arith, one-mul, mul_assoc, length-take-le, length-drop}
use Rattle.std.proofs.Math.Nat.{mul-div_cancel_left}
use Rattle.std.proofs.lemmas.Bool.{and_parts, leb-true}
use Rattle.std.proofs.lemmas.List.{nil_from_length}
use Rattle.std.proofs.lemmas.Slice.{first_rest}
use Rattle.std.specs.List.{between}
use Rattle.form.specs.Shapes.{product}
use Rattle.subset.proofs.Sizes.{inside_lengths}
use Rattle.subset.proofs.Joined.{slab_inside, row_inside}
use Rattle.subset.specs.Subsets.{inside}

abbrev pub head : List ℕ → ℕ
head xs = get_or xs 0 0

abbrev pub tail : List ℕ → List ℕ
tail xs = between 1 (length xs) xs

-- the first axis and the others, of an array of a bytes with a subset of o bytes
pub record Peeled (array start shape : List ℕ) (size a o n : ℕ) (ns : List ℕ) (s : ℕ) (ss : List ℕ) (l : ℕ) (ls : List ℕ) : Type 0 where
  pub array_is : array ≡ n ∷ ns
  pub start_is : start ≡ s ∷ ss
  pub shape_is : shape ≡ l ∷ ls
  pub inner : inside ns ss ls ≡ true
  pub fits : s + l ≤ n
  pub whole : a ≡ n * (product ns * size)
  pub room : o ≡ l * (product ls * size)

peel_at : (array start shape : List ℕ) (size a o n : ℕ) (ns : List ℕ) (s : ℕ) (ss : List ℕ) (l : ℕ) (ls : List ℕ) → array ≡ n ∷ ns → start ≡ s ∷ ss → shape ≡ l ∷ ls
    → inside array start shape ≡ true → a ≡ product array * size → o ≡ product shape * size → Peeled array start shape size a o n ns s ss l ls
peel_at array start shape size a o n ns s ss l ls e f g h w r =
    let i : inside (n ∷ ns) (s ∷ ss) (l ∷ ls) ≡ true = rw (e, f, g) at h in
    let p = and_parts _ _ i in record {
      array_is = e;
      start_is = f;
      shape_is = g;
      inner = p.1;
      fits = leb-true _ _ p.0;
      whole = w ∙ ap (λ v. product v * size) e ∙ mul_assoc n (product ns) size;
      room = r ∙ ap (λ v. product v * size) g ∙ mul_assoc l (product ls) size;
    }

pub peel : {array start shape : List ℕ} {size a o : ℕ} → 0 < length array → inside array start shape ≡ true → a ≡ product array * size → o ≡ product shape * size
    → Peeled array start shape size a o (head array) (tail array) (head start) (tail start) (head shape) (tail shape)
peel {array} {start} {shape} {size} {a} {o} z h w r =
    let l = inside_lengths array start shape h in
    peel_at array start shape size a o _ _ _ _ _ _ (first_rest array 0 z) (first_rest start 0 (omega arith)) (first_rest shape 0 (omega arith)) h w r

-- w bytes from one on, as a slice has them
pub length_part : (at w : ℕ) (x : List ℕ) → at + w ≤ length x → length (between at (at + w) x) ≡ w
length_part at w x h = let e : at + w - at ≡ w = omega arith in rw e (length-take-le w (drop at x) (omega (arith, length-drop at x)))

module _ {array start shape : List ℕ} {size a o n : ℕ} {ns : List ℕ} {s : ℕ} {ss : List ℕ} {l : ℕ} {ls : List ℕ} (p : Peeled array start shape size a o n ns s ss l ls) where
  -- what a function of the lists gives of the first axis and the others
  pub at_axis : {X : Type 0} (F : List ℕ → List ℕ → List ℕ → X) → F array start shape ≡ F (n ∷ ns) (s ∷ ss) (l ∷ ls)
  at_axis F = ap (λ v. F v start shape) p.array_is ∙ ap (λ v. F (n ∷ ns) v shape) p.start_is ∙ ap (λ v. F (n ∷ ns) (s ∷ ss) v) p.shape_is

  -- there is no other axis
  pub last : length array ≡ 1 → (ns ≡ []) × (ls ≡ [])
  last h =
      let q = inside_lengths ns ss ls p.inner in
      let z : length ns ≡ 0 = omega (arith, ap length p.array_is) in
      (nil_from_length ns z, nil_from_length ls (omega (arith, q.1)))

  -- then it is a row of the array
  pub row_fits_in : length array ≡ 1 → (s * size + l * size ≤ a) × (o ≡ l * size)
  row_fits_in h =
      let q = last h in
      let one : product [] * size ≡ size = one-mul size in (
        row_inside s l n size a p.fits (p.whole ∙ ap (λ v. n * (product v * size)) q.0 ∙ ap (λ v. n * v) one),
        p.room ∙ ap (λ v. l * (product v * size)) q.1 ∙ ap (λ v. l * v) one,
      )

  -- how many bytes a slab of the array has, and the part for it
  pub width : 0 < l → a / n ≡ product ns * size
  width h = ap (λ v. v / n) p.whole ∙ mul-div_cancel_left (product ns * size) (omega (arith, p.fits))

  pub part : 0 < l → o / l ≡ product ls * size
  part h = ap (λ v. v / l) p.room ∙ mul-div_cancel_left (product ls * size) h

  -- both lie inside
  pub slab_fits : (k : ℕ) → k < l → ((s + k) * (a / n) + a / n ≤ a) × (k * (o / l) + o / l ≤ o)
  slab_fits k h = (
    slab_inside (s + k) n (a / n) a (omega (arith, p.fits)) (p.whole ∙ ap (λ v. n * v) (sym (width (omega arith)))),
    slab_inside k l (o / l) o h (p.room ∙ ap (λ v. l * v) (sym (part (omega arith)))),
  )
