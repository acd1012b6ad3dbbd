-- What each command leaves of a session.
use Rattle.std.specs.Prelude.{◌≡◌, ℕ, List, Option, Ok, Result, vec_items, vec_len, OnErr}
use Rattle.cells.specs.Cells.{Value}
use Rattle.fletcher32.specs.Fletcher32.{fletcher32}
use Rattle.chunkctl.specs.declared.trouble.Trouble.{Trouble}
use Rattle.chunkctl.specs.declared.answer.Answer.{Answer}
use Rattle.chunkctl.specs.declared.answer.Answer.TheVariants.{Commands, Output, Sum as SumIs}
use Rattle.chunkctl.specs.declared.session.Session.{Session}
use Rattle.chunkctl.specs.declared.command.Command.{Command}
use Rattle.chunkctl.specs.declared.command.Command.TheVariants.{Help, Out, Work, Peek, Form, Stages, Chain, Singles, Lengths, Encode, Decode, Undo, Sum, Data, Cell, Length, Read, Replace, Erase, Dump}
use Rattle.chunkctl.specs.Carried.{OutputSet, WorkSet, FormSet, StagesSet, ChainSet, SinglesAnswer, LengthsAnswer, Kept, Encodes, Decodes, Undoes, BeforeSum}
use Rattle.chunkctl.specs.Celled.{CellSet, LengthTold, Reads, Replaces, Erases, Dumps}
use Rattle.chunkctl.specs.Stages.{said}

-- a command changes no more than its own; the cell is reached, and what is seen of it told, by functions, since the type of a cell in the
-- session is one of the code
module _ {C : Type 0} (cell : Session → Option C) (value : C → Value) (capacity : C → ℕ) (behind : C → List ℕ) (place : C → ℕ → ℕ) (rewritten : C → ℕ → C → Type 0) where
  abbrev pub Ran : Command → Session → Session → Result Answer Trouble → Type 0
  Ran Help s t r = (r ≡ Ok Commands) × (t ≡ s)
  Ran (Out n) s t r = (t.form ≡ s.form) × (t.stages ≡ s.stages) × (cell t ≡ cell s) × OutputSet n s.buffers t.buffers r
  Ran (Work n m) s t r = (t.form ≡ s.form) × (t.stages ≡ s.stages) × (cell t ≡ cell s) × WorkSet n m s.buffers t.buffers r
  Ran Peek s t r = (r ≡ Ok (Output (vec_len s.buffers.output))) × (t ≡ s)
  Ran (Form shape code fill) s t r =
      FormSet (vec_items shape) code (vec_items fill) t.form r × OnErr r (t ≡ s) ×
      (t.stages ≡ s.stages) × (t.buffers ≡ s.buffers) × (cell t ≡ cell s)
  Ran (Stages run) s t r =
      StagesSet run t.stages r × OnErr r (t ≡ s) × (t.form ≡ s.form) × (t.buffers ≡ s.buffers) × (cell t ≡ cell s)
  Ran (Chain names) s t r =
      ChainSet (said names) s.form t.stages r × OnErr r (t ≡ s) × (t.form ≡ s.form) × (t.buffers ≡ s.buffers) × (cell t ≡ cell s)
  Ran Singles s t r = SinglesAnswer s.stages r × (t ≡ s)
  Ran (Lengths decoded) s t r = LengthsAnswer s.stages s.form decoded r × (t ≡ s)
  Ran (Encode bytes) s t r =
      (t.form ≡ s.form) × (t.stages ≡ s.stages) × (cell t ≡ cell s) ×
      Encodes s.stages s.form (vec_items bytes) s.buffers t.buffers r × Kept s.buffers t.buffers r
  Ran (Decode checks bytes) s t r =
      (t.form ≡ s.form) × (t.stages ≡ s.stages) × (cell t ≡ cell s) ×
      Decodes s.stages checks (vec_items bytes) s.buffers t.buffers r × Kept s.buffers t.buffers r
  Ran (Undo u) s t r =
      (t.form ≡ s.form) × (t.stages ≡ s.stages) × (cell t ≡ cell s) ×
      Undoes s.stages s.form u s.buffers t.buffers r × Kept s.buffers t.buffers r
  Ran (Sum bytes) s t r = (r ≡ Ok (SumIs (fletcher32 (vec_items bytes)))) × (t ≡ s)
  Ran (Data bytes) s t r = BeforeSum (vec_items bytes) r × (t ≡ s)
  Ran (Cell size layout mark front) s t r =
      CellSet value capacity behind place size layout mark (vec_items front) (cell s) (cell t) r ×
      (t.form ≡ s.form) × (t.stages ≡ s.stages) × (t.buffers ≡ s.buffers)
  Ran Length s t r = LengthTold value (cell s) r × (t ≡ s)
  Ran (Read offset count) s t r =
      (t.form ≡ s.form) × (t.stages ≡ s.stages) × (cell t ≡ cell s) × (t.buffers.work ≡ s.buffers.work) × (t.buffers.scratch ≡ s.buffers.scratch) ×
      Reads value (cell s) offset count s.buffers.output t.buffers.output r
  Ran (Replace bytes) s t r =
      Replaces value capacity rewritten (vec_items bytes) (cell s) (cell t) r × (t.form ≡ s.form) × (t.stages ≡ s.stages) × (t.buffers ≡ s.buffers)
  Ran Erase s t r = Erases value capacity rewritten (cell s) (cell t) r × (t.form ≡ s.form) × (t.stages ≡ s.stages) × (t.buffers ≡ s.buffers)
  Ran Dump s t r = Dumps behind (cell s) r × (t ≡ s)
