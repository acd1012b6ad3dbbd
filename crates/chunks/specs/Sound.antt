-- What an open chunk keeps to between its calls.
use Rattle.std.specs.Prelude.{◌≡◌, ℕ, ◌≤◌, List, length, Some, Option}
use Rattle.form.specs.declared.array_form.Form.{Form}
use Rattle.stage.specs.Stage.{Stage}
use Rattle.cells.specs.Cells.{Value}
use Rattle.pair.specs.declared.Pair.{Pair}
use Rattle.chunks.specs.Views.{Coder, chained, kept}

-- what the codecs of a chain mean, with the form of its arrays
abbrev pub coder_of : {A B S : Type 0} → (A → Stage Form Form) → (B → Stage Form ℕ) → (S → Stage ℕ ℕ) → Pair S (Pair B A) → Form → Coder
coder_of a b s p f = record { arrays = a p.inner.inner; to_bytes = b p.inner.outer; bytes = s p.outer; form = f }

-- the cell holds a whole encoding or nothing, and has room for one; what is kept is its value undone to the place
pub record Sound (c : Coder) (capacity : ℕ) (cell : Value) (cached : Option Value) : Type 0 where
  pub roomy : (chained c).size c.form 0 ≤ capacity
  pub whole : (encoded : List ℕ) → cell ≡ Some encoded → length encoded ≡ (chained c).size c.form 0
  pub kept_is : cached ≡ kept c cell
