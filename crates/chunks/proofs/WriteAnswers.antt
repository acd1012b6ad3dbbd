-- What a write answers and leaves, from what its steps do.
use Rattle.std.proofs.Common.{◌≡◌, ℕ, ◌*◌, ◌≤◌, true, List, ◌++◌, length, take, Some, None, Ok, Err, Result, IsOk, refl, sym, ap, ◌∙◌, arith}
use Rattle.std.proofs.lemmas.Bool.{eq-eqb}
use Rattle.std.proofs.lemmas.Option.{none-some}
use Rattle.std.proofs.lemmas.List.{length-take-le, take_at}
use Rattle.form.specs.declared.array_form.Form.{Form}
use Rattle.form.specs.declared.fault.Fault.{Fault}
use Rattle.form.specs.Refusals.{Refusal, told, only_if}
use Rattle.form.specs.Shapes.{product}
use Rattle.form.specs.Forms.{shape_of, element_size}
use Rattle.stage.specs.Stage.{Bytes, Laws}
use Rattle.stage.specs.Arrays.{array_bytes}
use Rattle.stage.specs.Calls.{roomy}
use Rattle.stage.proofs.Bytewise.{Bytes-take}
use Rattle.subset.specs.Subsets.{inside, put_subset}
use Rattle.subset.specs.Answers.{write_answer, overwritten}
use Rattle.subset.proofs.Subsets.{length_put}
use Rattle.chunks.specs.Views.{Coder, View, chained, encoding, array_of}
use Rattle.chunks.specs.Calls.{writes, due}
use Rattle.chunks.proofs.Carrying.{ok_in}
use Rattle.chunks.proofs.ReadAnswers.{passed}

-- the encoding of what a buffer of bytes holds is that array's
module _ (c : Coder) (l : Laws array_bytes (λ n. n) (chained c)) (r : (chained c).refusal c.form ≡ None) where
  pub array_few : array_bytes c.form ≤ 4096
  array_few = omega (arith, l.last c.form r, l.bound c.form (length (chained c).singles) r (omega arith))

  pub encoding_returns : (w : List ℕ) → Bytes w → 4096 ≤ length w → array_of c (Some (encoding c (take (array_bytes c.form) w))) ≡ take (array_bytes c.form) w
  encoding_returns w b h =
      let f = array_few in
      l.whole c.form (take (array_bytes c.form) w) r (length-take-le (array_bytes c.form) w (omega arith)) (Bytes-take (array_bytes c.form) w (omega arith) b)

-- a write of which nothing is refused; f is the chunk's form
module _ (v : View) (start shape elements : List ℕ) (work scratch count : ℕ) (array : List ℕ) (f : Form) (same : f ≡ v.coder.form)
    (usable : v.shut ≡ None)
    (counted : ◌≡◌ {A = Result ℕ Refusal} (Ok count) (only_if (inside (shape_of f) start shape) 17 (Ok (product shape * element_size f))))
    (sized : length elements ≡ count)
    (room : ◌≡◌ {A = Result Unit Refusal} (Ok tt) (only_if (roomy work scratch) 14 (Ok tt)))
    (whole : length array ≡ product (shape_of f) * element_size f) where
  inside_is : inside (shape_of f) start shape ≡ true
  inside_is = (passed _ 17 count _ counted).0

  elements_are : length elements ≡ product shape * element_size f
  elements_are = sized ∙ (passed _ 17 count _ counted).1

  pub write_goes : write_answer (shape_of f) start shape (element_size f) (length elements) (length array) ≡ Ok tt
  write_goes = rw (inside_is, eq-eqb _ _ elements_are, eq-eqb _ _ whole) refl

  pub write_due : due v v.cell (writes start shape elements) (record { output = 0; work = work; scratch = scratch }) ≡ None
  write_due = rw (usable, sym same, inside_is, eq-eqb _ _ elements_are, (passed {X = Unit} _ 14 tt tt room).0) refl

  pub write_ok : (r : Result Unit Fault) → told r ≡ write_answer (shape_of f) start shape (element_size f) (length elements) (length array) → IsOk r
  write_ok (Ok u) t = refl
  write_ok (Err e) t = absurd (none-some _ (ap ok_in (t ∙ write_goes)))

  -- the array so overwritten stands at the front of the buffer
  pub written_front : (r : Result Unit Fault) → told r ≡ write_answer (shape_of f) start shape (element_size f) (length elements) (length array) → (new rest : List ℕ)
      → new ≡ overwritten r (put_subset (shape_of f) start shape (element_size f) elements array) array → (m : ℕ) → m ≡ length array → (y : List ℕ) → array ≡ y
      → take m (new ++ rest) ≡ put_subset (shape_of v.coder.form) start shape (element_size v.coder.form) elements y
  written_front (Ok u) t new rest b m e y z =
      ap (λ x. take m (x ++ rest)) b
      ∙ take_at (put_subset (shape_of f) start shape (element_size f) elements array) rest m (length_put (shape_of f) start shape (element_size f) inside_is elements array elements_are whole ∙ sym e)
      ∙ ap (λ f. put_subset (shape_of f) start shape (element_size f) elements array) same
      ∙ ap (put_subset (shape_of v.coder.form) start shape (element_size v.coder.form) elements) z
  written_front (Err d) t new rest b m e y z = absurd (none-some _ (ap ok_in (t ∙ write_goes)))
