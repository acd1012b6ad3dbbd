-- What the calls of a cell answer, by its value and its capacity, and what they leave in the buffer behind it.
use Rattle.std.specs.Prelude.{◌≡◌, ℕ, ◌+◌, ◌<◌, Bool, cond, List, [], ◌++◌, length, take, drop, slice_index_or, Some, None, Ok, Err, Option, Result, option_map, nat_le, min}
use Rattle.std.specs.Option.{unwrap_or}
use Rattle.form.specs.Refusals.{Refusal, plain, only_if}

-- what a cell holds: nothing, or a list of bytes
abbrev pub Value : Type 0
Value = Option (List ℕ)

-- the bytes that a cell holds; none of an absent value
abbrev pub bytes_of : Value → List ℕ
bytes_of None = []
bytes_of (Some bytes) = bytes

-- so many bytes of a list, from an offset on
abbrev pub part : ℕ → ℕ → List ℕ → List ℕ
part offset count bytes = take count (drop offset bytes)

-- what reading count bytes from an offset on, of a value of that length, into room bytes answers
abbrev pub read_answer : Option ℕ → ℕ → ℕ → ℕ → Result ℕ Refusal
read_answer None offset count room = Err (plain 19)
read_answer (Some n) offset count room = only_if (nat_le (offset + count) n) 18 (only_if (nat_le count room) 14 (Ok count))

-- what a replacement by count bytes answers in a cell of that capacity
abbrev pub replace_answer : ℕ → ℕ → Result Unit Refusal
replace_answer capacity count = only_if (nat_le count capacity) 16 (Ok tt)

-- the value that a mark gives of the bytes of a cell: absent, or so many first ones
abbrev pub marked : Option ℕ → List ℕ → Value
marked mark bytes = option_map (λ count. take count bytes) mark

-- how many bytes a mark gives
abbrev pub marked_count : Option ℕ → ℕ
marked_count mark = unwrap_or mark 0

-- a buffer before and after a write of count bytes, byte m to place m: every other byte is as it was
pub record RestKept (place : ℕ → ℕ) (count : ℕ) (before after : List ℕ) : Type 0 where
  pub size : length after ≡ length before
  pub rest : (k : ℕ) → ((m : ℕ) → m < count → place m ≡ k → ⊥) → (d : ℕ) → slice_index_or after k d ≡ slice_index_or before k d

-- every byte of the buffer outside of so many places is as it was
abbrev pub Confined : ℕ → List ℕ → List ℕ → Type 0
Confined count before after = (place : ℕ → ℕ) × RestKept place count before after

-- a slot: the lesser of the buffer's length and 4,096 bytes
abbrev pub slot_capacity : ℕ → ℕ
slot_capacity size = min size 4096

abbrev pub slot_fits : ℕ → Option ℕ → Bool
slot_fits size mark = nat_le (marked_count mark) (slot_capacity size)

-- what the check of a cell answers
abbrev pub check_answer : Bool → Result Unit Refusal
check_answer fits = only_if fits 20 (Ok tt)

-- a list after a part was written over it
abbrev pub overwritten : ℕ → List ℕ → List ℕ → List ℕ
overwritten at part bytes = take at bytes ++ (part ++ drop (at + length part) bytes)

-- the same where it fits, and else as it was
abbrev pub put_at : ℕ → List ℕ → List ℕ → List ℕ
put_at at part bytes = cond (nat_le (at + length part) (length bytes)) (overwritten at part bytes) bytes
