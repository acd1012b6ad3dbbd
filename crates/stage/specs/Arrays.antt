-- Stages over arrays, and what they keep besides the laws of every stage.
use Rattle.std.specs.Prelude.{◌≡◌, ℕ, ◌*◌, true, ◌⊎◌, List, Some, None}
use Rattle.form.specs.declared.array_form.Form.{Form}
use Rattle.form.specs.Shapes.{count, on}
use Rattle.form.specs.Forms.{element_size}
use Rattle.stage.specs.Stage.{Stage}

-- how many elements an array has
abbrev pub element_count : Form → ℕ
element_count f = count (on f.lengths) f.dims

-- and how many bytes
abbrev pub array_bytes : Form → ℕ
array_bytes f = element_count f * element_size f

pub record ArrayLaws (t : Stage Form Form) : Type 0 where
  -- a shape is refused with 9, and nothing else is refused
  pub refuses_shape : (f : Form) → (t.refusal f ≡ None) ⊎ (t.refusal f ≡ Some 9)
  -- the encoded has as many elements, of the same type and with the same fill value
  pub count_kept : (f : Form) → t.refusal f ≡ None → element_count (t.coded f) ≡ element_count f
  pub type_kept : (f : Form) → t.refusal f ≡ None → (t.coded f).data_type ≡ f.data_type
  pub fill_kept : (f : Form) → t.refusal f ≡ None → (t.coded f).fill ≡ f.fill
  -- every test passes
  pub passes_all : (f : Form) (k : ℕ) (x : List ℕ) → t.passes f k x ≡ true

-- and what a stage from arrays to bytes keeps
pub record ArrayToBytesLaws (t : Stage Form ℕ) : Type 0 where
  -- a shape is refused with 9, elements that have no byte order with 10, and nothing else is refused
  pub refuses : (f : Form) → (t.refusal f ≡ None) ⊎ ((t.refusal f ≡ Some 9) ⊎ (t.refusal f ≡ Some 10))
  -- every test passes
  pub passes_all : (f : Form) (k : ℕ) (x : List ℕ) → t.passes f k x ≡ true
