-- How a line is kept while it is read, and which lines are passed over.
use Rattle.std.specs.Prelude.{◌≡◌, ℕ, ◌+◌, ◌<◌, ◌≤◌, Bool, true, false, List, ◌++◌, length, Ok, Err, Result}
use Rattle.chunkctl.specs.declared.line.Look.{Look}
use Rattle.chunkctl.specs.declared.line.Look.TheVariants.{Nothing, Blanks, Comment, Words}
use Rattle.chunkctl.specs.declared.trouble.Complaint.{Complaint}
use Rattle.chunkctl.specs.declared.trouble.Complaint.TheVariants.{NoMemory, LineTooLong}

-- why a line of so many bytes is not kept
abbrev pub NotKept : ℕ → Complaint → Type 0
NotKept n LineTooLong = 16777216 < n
NotKept n NoMemory = Unit {0}
NotKept n _ = ⊥

-- a line that is whole so far gets each part, and has 16,777,216 bytes at most, or is left as it is; one that is not whole is left
-- so, and stays so
abbrev pub Grown : Result (Unit {0}) Complaint → List ℕ → List ℕ → List ℕ → Result (Unit {0}) Complaint → Type 0
Grown (Ok _) line part next (Ok _) = (next ≡ line ++ part) × (length next ≤ 16777216)
Grown (Ok _) line part next (Err c) = (next ≡ line) × NotKept (length line + length part) c
Grown (Err c) line part next now = (next ≡ line) × (now ≡ Err c)

-- a line with nothing but blanks in it, or none, and a comment are passed over
abbrev pub silent : Look → Bool
silent Words = false
silent Nothing = true
silent Blanks = true
silent Comment = true
