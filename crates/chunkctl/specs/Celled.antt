-- What the commands of a cell leave and answer.
use Rattle.std.specs.Prelude.{◌≡◌, ℕ, ◌-◌, ◌<◌, ◌≤◌, true, false, List, ◌++◌, length, replicate, Some, None, Ok, Err, Option, Result, option_map, vec_items, vec_len}
use Rattle.std.specs.Global.{Vec}
use Rattle.form.specs.Refusals.{refusal, plain}
use Rattle.cells.specs.Cells.{Value, bytes_of as cell_bytes, part, read_answer}
use Rattle.chunkctl.specs.declared.trouble.Trouble.{Trouble}
use Rattle.chunkctl.specs.declared.trouble.Trouble.TheVariants.{Refused, Error}
use Rattle.chunkctl.specs.declared.trouble.Complaint.TheVariants.{NoMemory, FrontTooLong, NoCell}
use Rattle.chunkctl.specs.declared.answer.Answer.{Answer}
use Rattle.chunkctl.specs.declared.answer.Answer.TheVariants.{Done, Capacity, Length}
use Rattle.chunkctl.specs.declared.command.Layout.{Layout}
use Rattle.chunkctl.specs.Layouts.{layout_fits, layout_capacity, MadeAs}
use Rattle.chunkctl.specs.Carried.{IsRefused, NotMade, Called, bytes_of}

-- the buffer of a new cell: bytes, and zeros behind them
abbrev pub buffer_of : ℕ → List ℕ → List ℕ
buffer_of size front = front ++ replicate (size - length front) 0

-- why it is not made
abbrev pub NotFilled : ℕ → List ℕ → Trouble → Type 0
NotFilled size front (Error FrontTooLong) = (size ≤ 1048576) × (size < length front)
NotFilled size front t = NotMade size t

-- an error leaves the cell as it was
abbrev pub CellKept : {C : Type 0} → Option C → Option C → Result Answer Trouble → Type 0
CellKept old new (Ok a) = Unit {0}
CellKept old new (Err (Refused e)) = Unit {0}
CellKept old new (Err (Error c)) = new ≡ old

-- Each command says what it leaves by what is seen of a cell: its value and capacity, the bytes of the buffer behind it, where each byte
-- of a value lies there, and what a write leaves of it.
module _ {C : Type 0} (value : C → Value) (capacity : C → ℕ) (behind : C → List ℕ) (place : C → ℕ → ℕ) where
  abbrev pub IsNew : ℕ → Layout → Option ℕ → List ℕ → Option C → Type 0
  IsNew size layout mark front None = ⊥
  IsNew size layout mark front (Some c) =
      (size ≤ 1048576) × (length front ≤ size) × MadeAs value capacity behind place size layout mark (buffer_of size front) c

  -- it is kept also where the check refuses it, and an error leaves the earlier one
  abbrev pub CellSet : ℕ → Layout → Option ℕ → List ℕ → Option C → Option C → Result Answer Trouble → Type 0
  CellSet size layout mark front old new (Ok a) =
      (a ≡ Capacity (layout_capacity size layout)) × (layout_fits size layout mark ≡ true) × IsNew size layout mark front new
  CellSet size layout mark front old new (Err (Refused e)) =
      (refusal e ≡ plain 20) × (layout_fits size layout mark ≡ false) × IsNew size layout mark front new
  CellSet size layout mark front old new (Err (Error c)) = NotFilled size front (Error c) × (new ≡ old)

-- before any cell all others are an error
module _ {C : Type 0} (value : C → Value) where
  abbrev pub LengthTold : Option C → Result Answer Trouble → Type 0
  LengthTold None r = r ≡ Err (Error NoCell)
  LengthTold (Some c) r = r ≡ Ok (Length (option_map length (value c)))

  -- the output buffer before and after
  abbrev pub Reads : Option C → ℕ → ℕ → Vec ℕ → Vec ℕ → Result Answer Trouble → Type 0
  Reads None offset count old new r = (r ≡ Err (Error NoCell)) × (new ≡ old)
  Reads (Some c) offset count old new r =
      Called (read_answer (option_map length (value c)) offset count (vec_len old)) (part offset count (cell_bytes (value c))) (vec_len old)
      (vec_items new) r

module _ {C : Type 0} (value : C → Value) (capacity : C → ℕ) (rewritten : C → ℕ → C → Type 0) where
  -- a cell has a value, n bytes of which were written, and is else as it was
  abbrev pub Holds : Value → ℕ → C → Option C → Type 0
  Holds v n c None = ⊥
  Holds v n c (Some d) = (value d ≡ v) × (capacity d ≡ capacity c) × rewritten c n d

  abbrev pub Replaces : List ℕ → Option C → Option C → Result Answer Trouble → Type 0
  Replaces bytes None new r = (r ≡ Err (Error NoCell)) × (new ≡ None)
  Replaces bytes (Some c) new (Ok a) = (a ≡ Done) × (length bytes ≤ capacity c) × Holds (Some bytes) (length bytes) c new
  Replaces bytes (Some c) new (Err t) = IsRefused 16 t × (capacity c < length bytes) × (new ≡ Some c)

  abbrev pub Erases : Option C → Option C → Result Answer Trouble → Type 0
  Erases None new r = (r ≡ Err (Error NoCell)) × (new ≡ None)
  Erases (Some c) new r = (r ≡ Ok Done) × Holds None 0 c new

-- all bytes behind the cell, unless there is no memory for a copy of them
abbrev pub Dumps : {C : Type 0} → (C → List ℕ) → Option C → Result Answer Trouble → Type 0
Dumps behind None r = r ≡ Err (Error NoCell)
Dumps behind (Some c) (Ok a) = bytes_of a ≡ Some (behind c)
Dumps behind (Some c) (Err t) = t ≡ Error NoMemory
