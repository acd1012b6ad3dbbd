-- Array forms: what one says, and when numbers are none.
use Rattle.std.specs.Prelude.{◌≡◌, ℕ, ◌-◌, ◌*◌, List, length, take, drop, replicate, None, Option, ◌==◌, nat_le}
use Rattle.form.specs.declared.array_form.Form.{Form}
use Rattle.form.specs.Answers.{checked}
use Rattle.form.specs.Types.{code_of, size_of, is_code, size_of_code}
use Rattle.form.specs.Shapes.{product, is_shape}

abbrev pub shape_of : Form → List ℕ
shape_of f = take f.dims f.lengths

abbrev pub element_size : Form → ℕ
element_size f = size_of f.data_type

abbrev pub fill_of : Form → List ℕ
fill_of f = take (element_size f) f.fill

-- the first of the refusals that holds, in their order
abbrev pub form_refusal : List ℕ → ℕ → List ℕ → Option ℕ
form_refusal shape code fill =
    checked (is_shape shape) 1
    (checked (is_code code) 2
    (checked (nat_le (product shape * size_of_code code) 4096) 3
    (checked (length fill == size_of_code code) 4 None)))

-- the form says what was asked for, and has no other numbers in it
pub record Made (shape : List ℕ) (code : ℕ) (fill : List ℕ) (f : Form) : Type 0 where
  pub shape_is : shape_of f ≡ shape
  pub code_is : code_of f.data_type ≡ code
  pub fill_is : fill_of f ≡ fill
  pub dims_is : f.dims ≡ length shape
  pub lengths_rest : drop (length shape) f.lengths ≡ replicate (4 - length shape) 1
  pub fill_rest : drop (length fill) f.fill ≡ replicate (8 - length fill) 0
