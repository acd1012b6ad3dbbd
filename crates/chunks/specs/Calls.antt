-- What the calls on an open chunk answer, and what they change.
use Rattle.std.specs.Prelude.{◌≡◌, ℕ, ◌*◌, Bool, true, false, cond, ◌&&◌, List, ◌++◌, length, take, drop, Some, None, Ok, Err, Option, Result, nat_le, ◌==◌}
use Rattle.std.specs.Option.{option_or, unwrap_or}
use Rattle.form.specs.declared.fault.Fault.{Fault}
use Rattle.form.specs.Answers.{checked}
use Rattle.form.specs.Refusals.{refusal}
use Rattle.form.specs.Shapes.{product}
use Rattle.form.specs.Forms.{shape_of, element_size}
use Rattle.stage.specs.Calls.{roomy}
use Rattle.cells.specs.Cells.{Value, bytes_of}
use Rattle.subset.specs.Subsets.{inside, subset_of, put_subset}
use Rattle.chunks.specs.declared.byte_range.ByteRange.{ByteRange}
use Rattle.chunks.specs.declared.cached.Cached.{Cached}
use Rattle.chunks.specs.declared.cached.Cached.TheVariants.{NoPlace, Absent, Bytes}
use Rattle.chunks.specs.Ranges.{in_range, range_length, range_of}
use Rattle.chunks.specs.Views.{Coder, View, encoding, all_fill, array_of, plain, plain_length, kept}

-- a call on an open chunk
pub data Ask : Type 0 where
  -- a subset, by its start and its shape
  reads_subset : List ℕ → List ℕ → Ask
  reads_range : ByteRange → Ask
  -- what is kept
  asks_cached : Ask
  -- a subset, and its elements
  writes : List ℕ → List ℕ → List ℕ → Ask
  erases : Ask

-- what a call answered
pub data Answer : Type 0 where
  -- the number of the refusal
  refused : ℕ → Answer
  done : Answer
  gives : List ℕ → Answer
  cached : Option Value → Answer

-- how long the buffers were that a call was given
pub record Room : Type 0 where
  pub output : ℕ
  pub work : ℕ
  pub scratch : ℕ

pub record Event : Type 0 where
  pub ask : Ask
  pub room : Room
  pub answer : Answer

abbrev pub event : Ask → ℕ → ℕ → ℕ → Answer → Event
event ask output work scratch answer = record { ask = ask; room = record { output = output; work = work; scratch = scratch }; answer = answer }

abbrev pub is_accepted : Answer → Bool
is_accepted (refused n) = false
is_accepted done = true
is_accepted (gives bytes) = true
is_accepted (cached kept) = true

-- WHAT IT ANSWERS, by the cell's value, which may be absent, and the array x

abbrev pub subset_bytes : Coder → List ℕ → ℕ
subset_bytes c shape = product shape * element_size c.form

-- how many bytes there are to keep
abbrev pub kept_bytes : Option Value → ℕ
kept_bytes kept = length (bytes_of (unwrap_or kept None))

-- the refusal that a read of a range is due, if any
abbrev pub range_refusal : Coder → Value → ByteRange → Room → Option ℕ
range_refusal c None range room = Some 19
range_refusal c (Some encoded) range room =
    checked (in_range (plain_length c) range) 18
    (checked (nat_le (range_length (plain_length c) range) room.output && roomy room.work room.scratch) 14 None)

-- and that of any call
abbrev pub call_refusal : Coder → Value → Ask → Room → Option ℕ
call_refusal c value (reads_subset start shape) room =
    checked (inside (shape_of c.form) start shape) 17
    (checked (nat_le (subset_bytes c shape) room.output && roomy room.work room.scratch) 14 None)
call_refusal c value (reads_range range) room = range_refusal c value range room
call_refusal c value asks_cached room = checked (nat_le (kept_bytes (kept c value)) room.output) 14 None
call_refusal c value (writes start shape elements) room =
    checked (inside (shape_of c.form) start shape) 17
    (checked (length elements == subset_bytes c shape) 13
    (checked (roomy room.work room.scratch) 14 None))
call_refusal c value erases room = None

-- of a chunk that is shut each call answers that number
abbrev pub due : View → Value → Ask → Room → Option ℕ
due o value ask room = option_or o.shut (call_refusal o.coder value ask room)

-- what it answers if it is accepted
abbrev pub accepted_answer : Coder → Value → List ℕ → Ask → Answer
accepted_answer c value x (reads_subset start shape) = gives (subset_of (shape_of c.form) start shape (element_size c.form) x)
accepted_answer c value x (reads_range range) = gives (range_of range (plain c (bytes_of value)))
accepted_answer c value x asks_cached = cached (kept c value)
accepted_answer c value x (writes start shape elements) = done
accepted_answer c value x erases = done

abbrev pub or_refused : Option ℕ → Answer → Answer
or_refused None answer = answer
or_refused (Some n) answer = refused n

abbrev pub answer : View → Value → List ℕ → Ask → Room → Answer
answer o value x ask room = or_refused (due o value ask room) (accepted_answer o.coder value x ask)

-- WHAT IT CHANGES

-- the array with a subset overwritten
abbrev pub overwritten : Coder → List ℕ → List ℕ → List ℕ → List ℕ → List ℕ
overwritten c start shape elements x = put_subset (shape_of c.form) start shape (element_size c.form) elements x

-- an accepted write overwrites its subset, an accepted erasure makes all fill, and every other call leaves the array as it is
abbrev pub array_after : Coder → Ask → Bool → List ℕ → List ℕ
array_after c (reads_subset start shape) ok x = x
array_after c (reads_range range) ok x = x
array_after c asks_cached ok x = x
array_after c (writes start shape elements) ok x = cond ok (overwritten c start shape elements x) x
array_after c erases ok x = cond ok (all_fill c.form) x

-- what is seen after the cell has another value
abbrev pub storing : View → Value → View
storing v value = record { coder = v.coder; capacity = v.capacity; shut = v.shut; cell = value; cached = kept v.coder value }

-- an accepted write stores the whole encoding of the array so overwritten, an accepted erasure makes the cell absent, and every other
-- call leaves all as it is
abbrev pub changed : View → Ask → View
changed v (reads_subset start shape) = v
changed v (reads_range range) = v
changed v asks_cached = v
changed v (writes start shape elements) = storing v (Some (encoding v.coder (overwritten v.coder start shape elements (array_of v.coder v.cell))))
changed v erases = storing v None

abbrev pub unless_refused : Option ℕ → View → View → View
unless_refused None v w = w
unless_refused (Some n) v w = v

-- one call: v is seen before it, and w after it
pub record Called (v : View) (e : Event) (w : View) : Type 0 where
  -- the answer is the one that is due
  pub answer_is : e.answer ≡ answer v v.cell (array_of v.coder v.cell) e.ask e.room
  -- what is seen changes as the call says
  pub view_is : w ≡ unless_refused (due v v.cell e.ask e.room) v (changed v e.ask)
  -- and so does the array
  pub array_is : array_of w.coder w.cell ≡ array_after v.coder e.ask (is_accepted e.answer) (array_of v.coder v.cell)

-- ANSWERS AS THE CALLS GIVE THEM

-- of a call that fills an output
abbrev pub given : Result ℕ Fault → List ℕ → Answer
given (Ok n) output = gives (take n output)
given (Err e) output = refused (refusal e).number

-- of one that changes the chunk
abbrev pub finished : Result Unit Fault → Answer
finished (Ok u) = done
finished (Err e) = refused (refusal e).number

-- of the question what is kept
abbrev pub kept_in : Cached → List ℕ → Option Value
kept_in NoPlace output = None
kept_in Absent output = Some None
kept_in (Bytes n) output = Some (Some (take n output))

abbrev pub told_cached : Result Cached Fault → List ℕ → Answer
told_cached (Ok k) output = cached (kept_in k output)
told_cached (Err e) output = refused (refusal e).number

-- what is kept, with the count of its bytes
abbrev pub cached_count : Option Value → Cached
cached_count None = NoPlace
cached_count (Some None) = Absent
cached_count (Some (Some bytes)) = Bytes (length bytes)

-- the output after that question: the bytes in front of what lay past them, or all as it was
abbrev pub cached_written : Result Cached Fault → List ℕ → List ℕ → List ℕ
cached_written (Ok k) bytes old = bytes ++ drop (length bytes) old
cached_written (Err e) bytes old = old
