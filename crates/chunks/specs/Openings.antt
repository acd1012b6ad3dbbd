-- Opening a chunk.
use Rattle.std.specs.Prelude.{ℕ, Bool, true, length, Some, None, Option, nat_le, ◌==◌}
use Rattle.form.specs.Answers.{checked}
use Rattle.stage.specs.Calls.{roomy}
use Rattle.cells.specs.Cells.{Value}
use Rattle.chunks.specs.Views.{Coder, View, chained, kept}

-- absent, or so many bytes
abbrev pub is_whole : ℕ → Value → Bool
is_whole n None = true
is_whole n (Some encoded) = length encoded == n

-- why an opening is refused, if it is
abbrev pub open_refusal : Coder → ℕ → Value → ℕ → ℕ → Option ℕ
open_refusal c capacity value work scratch =
    checked (nat_le ((chained c).size c.form 0) capacity) 16
    (checked (is_whole ((chained c).size c.form 0) value) 13
    (checked (roomy work scratch) 14 None))

-- where it is refused, nothing is kept
abbrev pub kept_unless : Option ℕ → Coder → Value → Option Value
kept_unless None c value = kept c value
kept_unless (Some n) c value = None

-- what is seen of a chunk that was just opened
abbrev pub opening : Coder → ℕ → Value → Option ℕ → View
opening c capacity value shut = record { coder = c; capacity = capacity; shut = shut; cell = value; cached = kept_unless shut c value }
