-- What the calls of a subset answer, in an array of a shape with elements of `size` bytes.
use Rattle.std.specs.Prelude.{ℕ, ◌*◌, ◌&&◌, List, Ok, Err, Result, ◌==◌, nat_le}
use Rattle.form.specs.declared.fault.Fault.{Fault}
use Rattle.form.specs.Refusals.{Refusal, only_if}
use Rattle.form.specs.Shapes.{product}
use Rattle.subset.specs.Subsets.{inside}

module _ (array start shape : List ℕ) (size : ℕ) where
  -- how many bytes the subset has
  abbrev pub bytes_answer : Result ℕ Refusal
  bytes_answer = only_if (inside array start shape) 17 (Ok (product shape * size))

  -- a read from so many bytes into room for so many
  abbrev pub read_answer : ℕ → ℕ → Result ℕ Refusal
  read_answer bytes room =
      only_if (inside array start shape) 17
      (only_if (bytes == product array * size) 13
      (only_if (nat_le (product shape * size) room) 14 (Ok (product shape * size))))

  -- a write of so many bytes over so many
  abbrev pub write_answer : ℕ → ℕ → Result Unit Refusal
  write_answer elements bytes =
      only_if (inside array start shape) 17 (only_if (elements == product shape * size && bytes == product array * size) 13 (Ok tt))

-- what a write leaves: the new list, or after a refusal the old one
abbrev pub overwritten : Result Unit Fault → List ℕ → List ℕ → List ℕ
overwritten (Ok _) x old = x
overwritten (Err _) x old = old
