-- The laws of the difference codec, and what it makes of each element.
use Rattle.std.specs.Prelude.{◌≡◌, ℕ, ◌+◌, ◌*◌, List, length, slice_index, refl}
use Rattle.std.proofs.Common.{sym, ap, subst, ◌∙◌, inl, arith}
use Rattle.form.specs.declared.array_form.Form.{Form}
use Rattle.form.specs.declared.data_type.DataType.{DataType}
use Rattle.form.specs.declared.data_type.DataType.TheVariants.{UInt8, Float32, Float64}
use Rattle.form.specs.Types.{size_of}
use Rattle.form.specs.Forms.{element_size}
use Rattle.form.proofs.Types.{size_within}
use Rattle.form.proofs.Sized.{form_facts}
use Rattle.stage.specs.Stage.{Bytes}
use Rattle.stage.specs.Single.{CodingLaws, single}
use Rattle.stage.specs.Arrays.{element_count, array_bytes, ArrayLaws}
use Rattle.stage.specs.Elements.{elements}
use Rattle.groups.specs.Groups.{Operations, GroupLaws}
use Rattle.groups.specs.Modulo.{modular_laws}
use Rattle.groups.specs.Bitwise.{exclusive_laws}
use Rattle.difference.specs.Difference.{group_of, first_stays, on_elements, lessened, summed, differences, sums, differencing, Differs, Adds, Recodes}
use Rattle.difference.specs.ElementBytes.{length-elements, Bytes-bytes}
use Rattle.difference.specs.Sums.{Keeps, Undoes, first_of, length-on_elements, elements-on_elements, on_elements_back, less_before, plus_before, lessened_keeps, summed_keeps, summed-lessened, lessened-summed}

-- a group's numbers are as wide as the elements
width_is : (t : DataType) → (group_of t).width ≡ size_of t
width_is UInt8 = refl
width_is t = refl

group_laws : (t : DataType) → GroupLaws (group_of t)
group_laws Float32 = exclusive_laws (size_of Float32) (size_within Float32)
group_laws Float64 = exclusive_laws (size_of Float64) (size_within Float64)
group_laws t = modular_laws (size_of t) (size_within t)

module _ (f : Form) where
  abbrev o : Operations
  o = group_of f.data_type

  abbrev n : ℕ
  n = element_count f

  lessened_kept : Keeps o.width (lessened o)
  lessened_kept = lessened_keeps o (group_laws f.data_type)

  summed_kept : Keeps o.width (summed o)
  summed_kept = summed_keeps o (group_laws f.data_type)

  -- the bytes of an array, by the width of its group
  weight_is : n * o.width ≡ array_bytes f
  weight_is = ap (λ w. n * w) (width_is f.data_type)

  module _ (F : ℕ → List ℕ → List ℕ) (k : Keeps o.width F) where
    abbrev made : List ℕ → List ℕ
    made x = on_elements (first_stays F) o.width n x

    length-made : (x : List ℕ) → length (made x) ≡ array_bytes f
    length-made x = length-on_elements o.width F k n x ∙ weight_is

    elements-made : (x : List ℕ) → length x ≡ array_bytes f → Bytes x → elements (element_size f) n (made x) ≡ first_stays F (elements (element_size f) n x)
    elements-made x l h =
        let z = weight_is in
        subst (λ w. elements w n (made x) ≡ first_stays F (elements w n x)) (width_is f.data_type) (elements-on_elements o.width F k n x (omega arith) h)

    made_back : (G : ℕ → List ℕ → List ℕ) → Undoes o.width G F → (x : List ℕ) → length x ≡ array_bytes f → Bytes x → on_elements (first_stays G) o.width n (made x) ≡ x
    made_back G u x l h = on_elements_back o.width F k G u n x (l ∙ sym weight_is) h

pub differencing_laws : CodingLaws array_bytes array_bytes differencing
differencing_laws = record {
  fits = λ f r. let k = (form_facts f).fits in (k, k);
  encoded_size = λ f x r l. length-made f (lessened (o f)) (lessened_kept f) x;
  encoded_bytes = λ f x r l h. Bytes-bytes (o f).width (differences (o f) (elements (o f).width (n f) x));
  decoded_size = λ f x r l. length-made f (summed (o f)) (summed_kept f) x;
  decoded_bytes = λ f x r l h. Bytes-bytes (o f).width (sums (o f) (elements (o f).width (n f) x));
  back = λ f x r l h. made_back f (lessened (o f)) (lessened_kept f) (summed (o f)) (summed-lessened (o f) (group_laws f.data_type)) x l h;
  passing = λ f x r l h. refl;
}

pub differs : Differs
differs f x l h =
    let vs : List ℕ = elements (element_size f) (n f) x in
    let e = elements-made f (lessened (o f)) (lessened_kept f) x l h in
    record {
      first = ap (λ ys. slice_index ys 0) e ∙ first_of (lessened (o f)) vs;
      later = λ k u. ap (λ ys. slice_index ys (k + 1)) e ∙ less_before (o f) vs k (omega (arith, length-elements (element_size f) (n f) x));
    }

pub adds : Adds
adds f y l h =
    let ds : List ℕ = elements (element_size f) (n f) y in
    let e = elements-made f (summed (o f)) (summed_kept f) y l h in
    record {
      first = ap (λ xs. slice_index xs 0) e ∙ first_of (summed (o f)) ds;
      later = λ k u.
          ap (λ xs. slice_index xs (k + 1)) e
          ∙ plus_before (o f) ds k (omega (arith, length-elements (element_size f) (n f) y))
          ∙ ap (λ xs. (o f).plus (slice_index ds (k + 1)) (slice_index xs k)) (sym e);
    }

pub recodes : Recodes
recodes f y l h = made_back f (summed (o f)) (summed_kept f) (lessened (o f)) (lessened-summed (o f) (group_laws f.data_type)) y l h

pub differencing_arrays : ArrayLaws (single array_bytes array_bytes differencing)
differencing_arrays = record {
  refuses_shape = λ f. inl refl;
  count_kept = λ f r. refl;
  type_kept = λ f r. refl;
  fill_kept = λ f r. refl;
  passes_all = λ f k x. refl;
}
