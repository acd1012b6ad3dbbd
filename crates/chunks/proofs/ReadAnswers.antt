-- What the reads answer, from what their steps answer.
use Rattle.std.proofs.Common.{◌≡◌, ℕ, ◌*◌, ◌≤◌, Bool, true, false, List, length, None, Ok, Err, Result, IfOk, refl, sym, ap, ◌∙◌, nat_le}
use Rattle.std.proofs.lemmas.Bool.{le-leb, eq-eqb}
use Rattle.std.proofs.lemmas.Option.{none-some}
use Rattle.form.specs.declared.array_form.Form.{Form}
use Rattle.form.specs.declared.fault.Fault.{Fault}
use Rattle.form.specs.Refusals.{Refusal, told, unless, only_if}
use Rattle.form.specs.Shapes.{product}
use Rattle.form.specs.Forms.{shape_of, element_size}
use Rattle.stage.specs.Calls.{roomy}
use Rattle.subset.specs.Subsets.{inside, subset_of}
use Rattle.subset.specs.Answers.{read_answer}
use Rattle.subset.proofs.Subsets.{length_of}
use Rattle.chunks.proofs.Carrying.{ok_in}
use Rattle.chunks.specs.Views.{View}
use Rattle.chunks.specs.Calls.{reads_subset, due}

-- an answer that came says that the test was true
pub passed : {X : Type 0} (b : Bool) (n : ℕ) (x y : X) → ◌≡◌ {A = Result X Refusal} (Ok x) (only_if b n (Ok y)) → (b ≡ true) × (x ≡ y)
passed true n x y h = (refl, let z : x ≡ y = cc in z)
passed false n x y h = absurd (none-some _ (sym (ap ok_in h)))

-- a count that is answered is the one that was asked for
pub counted_by : (r : Result ℕ Fault) (m : ℕ) (y : List ℕ) → told r ≡ Ok m → length y ≡ m → IfOk r (λ n. length y ≡ n)
counted_by (Ok n) m y t l = l ∙ (let z : n ≡ m = cc in sym z)
counted_by (Err e) m y t l = tt

-- a read of a subset of which nothing is refused; f is the chunk's form
module _ (v : View) (start shape : List ℕ) (output work scratch count : ℕ) (array : List ℕ) (f : Form) (same : f ≡ v.coder.form)
    (usable : v.shut ≡ None)
    (counted : ◌≡◌ {A = Result ℕ Refusal} (Ok count) (only_if (inside (shape_of f) start shape) 17 (Ok (product shape * element_size f))))
    (short : count ≤ output)
    (room : ◌≡◌ {A = Result Unit Refusal} (Ok tt) (only_if (roomy work scratch) 14 (Ok tt)))
    (whole : length array ≡ product (shape_of f) * element_size f) where
  inside_is : inside (shape_of f) start shape ≡ true
  inside_is = (passed _ 17 count _ counted).0

  fits : nat_le (product shape * element_size f) output ≡ true
  fits = ap (λ n. nat_le n output) (sym (passed _ 17 count _ counted).1) ∙ le-leb _ _ short

  read_goes : read_answer (shape_of f) start shape (element_size f) (length array) output ≡ Ok (product shape * element_size f)
  read_goes = rw (inside_is, eq-eqb _ _ whole, fits) refl

  due_none : due v v.cell (reads_subset start shape) (record { output = output; work = work; scratch = scratch }) ≡ None
  due_none = rw (usable, sym same, inside_is, fits, (passed {X = Unit} _ 14 tt tt room).0) refl

  pub subset_told : (r : Result ℕ Fault) → told r ≡ read_answer (shape_of f) start shape (element_size f) (length array) output
      → told r ≡ unless (due v v.cell (reads_subset start shape) (record { output = output; work = work; scratch = scratch })) (Ok (product shape * element_size v.coder.form))
  subset_told r t = t ∙ read_goes ∙ ap (λ f. Ok (product shape * element_size f)) same ∙ ap (λ q. unless q (Ok (product shape * element_size v.coder.form))) (sym due_none)

  pub subset_counted : (y : List ℕ) → array ≡ y → (r : Result ℕ Fault) → told r ≡ read_answer (shape_of f) start shape (element_size f) (length array) output
      → IfOk r (λ n. length (subset_of (shape_of v.coder.form) start shape (element_size v.coder.form) y) ≡ n)
  subset_counted y e r t =
      counted_by r _ _ (t ∙ read_goes)
      (ap (λ f. length (subset_of (shape_of f) start shape (element_size f) y)) (sym same) ∙ ap (λ y. length (subset_of (shape_of f) start shape (element_size f) y)) (sym e)
      ∙ length_of (shape_of f) start shape (element_size f) inside_is array whole)
