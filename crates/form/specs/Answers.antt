-- What a call answers, by the number of the refusal that comes first.
use Rattle.std.specs.Prelude.{◌≡◌, ℕ, Bool, cond, Some, None, Ok, Err, Option, Result}
use Rattle.form.specs.declared.fault.Fault.{Fault}
use Rattle.form.specs.Refusals.{refusal, plain}

-- the number where the test fails, and else what the later tests say
abbrev pub checked : Bool → ℕ → Option ℕ → Option ℕ
checked b n later = cond b later (Some n)

-- with no refusal the answer is a value that meets P, and else it is that refusal
abbrev pub Answers : {X : Type 0} → Option ℕ → (X → Type 0) → Result X Fault → Type 0
Answers None P (Ok x) = P x
Answers None P (Err e) = ⊥
Answers (Some n) P (Ok x) = ⊥
Answers (Some n) P (Err e) = refusal e ≡ plain n
