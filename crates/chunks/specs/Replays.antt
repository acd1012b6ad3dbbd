-- Calls in a list, made in its order on one open chunk, with their recorded answers.
use Rattle.std.specs.Prelude.{◌≡◌, ℕ, ◌+◌, Bool, true, List, [], ◌∷◌, ◌++◌, length, take, drop, Some, None}
use Rattle.form.specs.Refusals.{refusal}
use Rattle.cells.specs.Cells.{Value}
use Rattle.chunks.specs.declared.cached.Cached.TheVariants.{NoPlace, Absent, Bytes as CachedBytes}
use Rattle.chunks.specs.declared.call.Call.{Call}
use Rattle.chunks.specs.declared.call.Call.TheVariants.{ReadSubset, ReadRange, Cached as AskCached, WriteSubset, Erase}
use Rattle.chunks.specs.declared.call.Answer.{Answer}
use Rattle.chunks.specs.declared.call.Answer.TheVariants.{Refused, Done, Bytes, Cached as TellCached}
use Rattle.chunks.specs.declared.call.Recorded.{Recorded}
use Rattle.chunks.specs.Views.{Coder, View, chained}
use Rattle.chunks.specs.Openings.{open_refusal, opening}
use Rattle.chunks.specs.Calls as calls
use Rattle.chunks.specs.Calls.{Ask, Event, Called, reads_subset, reads_range, asks_cached, writes, erases, refused, done, gives, cached, event, is_accepted, kept_in}
use Rattle.chunks.specs.Histories.{History, Law}
use Rattle.chunks.specs.Seen.{coder, seen}
use Rattle.form.specs.declared.array_form.Form.{Form}
use Rattle.stage.specs.declared.codec.Codec.{Ghosts as CodecGhosts}
use Rattle.stage.specs.declared.codec.Representation.{Ghosts as FormGhosts}
use Rattle.cells.specs.declared.cell.Cell.{Ghosts as CellGhosts}
use Rattle.chunks.specs.declared.open_chunk.OpenChunk.{OpenChunk}

-- ONE CALL

-- a call and its answer as an event, with the lengths of those buffers that the call takes
abbrev pub call_event : Call → ℕ → ℕ → ℕ → calls.Answer → Event
call_event (ReadSubset subset) output work scratch answer = event (reads_subset subset.start.now subset.shape.now) output work scratch answer
call_event (ReadRange range) output work scratch answer = event (reads_range range) output work scratch answer
call_event AskCached output work scratch answer = event asks_cached output 0 0 answer
call_event (WriteSubset subset elements) output work scratch answer = event (writes subset.start.now subset.shape.now elements.now) 0 work scratch answer
call_event Erase output work scratch answer = event erases 0 0 0 answer

-- the answer, with its bytes at the front of a buffer
abbrev pub answered : Answer → List ℕ → calls.Answer
answered (Refused e) buffer = refused (refusal e).number
answered Done buffer = done
answered (Bytes n) buffer = gives (take n buffer)
answered (TellCached k) buffer = cached (kept_in k buffer)

-- how many bytes it has there
abbrev pub used : Answer → ℕ
used (Refused e) = 0
used Done = 0
used (Bytes n) = n
used (TellCached NoPlace) = 0
used (TellCached Absent) = 0
used (TellCached (CachedBytes n)) = n

-- the same cell, but that an accepted write wrote the first n bytes of its value anew, and an accepted erasure none
abbrev pub rewrites : {C : Type 0} → (C → ℕ → C → Type 0) → ℕ → C → Ask → Bool → C → Type 0
rewrites rewritten n s (writes start shape elements) true t = rewritten s n t
rewrites rewritten n s erases true t = rewritten s 0 t
rewrites rewritten n s ask ok t = t ≡ s

abbrev pub Rewrites : {C : Type 0} → (C → ℕ → C → Type 0) → ℕ → C → Event → C → Type 0
Rewrites rewritten n s e t = rewrites rewritten n s e.ask (is_accepted e.answer) t

-- A LIST OF CALLS

-- how many bytes the answers have
abbrev pub used_by : List Recorded → ℕ
used_by [] = 0
used_by (r ∷ rs) = used r.answer + used_by rs

-- the bytes of each answer begin where those of the answers before it end
abbrev pub Packed : ℕ → List Recorded → Type 0
Packed from [] = Unit
Packed from (r ∷ rs) = (r.from ≡ from) × Packed (from + used r.answer) rs

-- a call as it was made on what was left of the output then
abbrev pub recorded_event : ℕ → ℕ → List ℕ → Call → Recorded → Event
recorded_event work scratch output c r = call_event c (length (drop r.from output)) work scratch (answered r.answer (drop r.from output))

-- the calls with their answers as a history, the latest call first
abbrev pub events : ℕ → ℕ → List ℕ → List Call → List Recorded → History
events work scratch output [] rs = []
events work scratch output (c ∷ cs) [] = []
events work scratch output (c ∷ cs) (r ∷ rs) = events work scratch output cs rs ++ (recorded_event work scratch output c r ∷ [])

-- from u on, each event in its turn is a step, the last of them to v
abbrev pub Run : {S : Type 0} → (S → Event → S → Type 0) → S → History → S → Type 0
Run step u [] v = v ≡ u
Run {S = S} step u (e ∷ es) v = (w : S) × (Run step u es w × step w e v)

-- each call of the history was refused with that number
abbrev pub AllRefused : ℕ → History → Type 0
AllRefused n [] = Unit
AllRefused n (e ∷ h) = (e.answer ≡ refused n) × AllRefused n h

-- what is seen of it, with the refusal of the opening, if there is one
abbrev pub opened : Coder → ℕ → Value → ℕ → ℕ → View
opened c capacity value work scratch = opening c capacity value (open_refusal c capacity value work scratch)

-- ON AN OPEN CHUNK

module _ {A B S C : Type 0} {a : CodecGhosts A Form Form} {f : FormGhosts Form} {b : CodecGhosts B Form ℕ} {n : FormGhosts ℕ} {s : CodecGhosts S ℕ ℕ} {c : CellGhosts C} where
  -- a call takes the chunk u to the chunk v: it is one by what is seen, and writes no more behind the cell than it says
  abbrev pub Makes : OpenChunk A B S C a f b n s c → Event → OpenChunk A B S C a f b n s c → Type 0
  Makes u e v = Called (seen u) e (seen v) × Rewrites c.rewritten ((chained (coder u.chain)).size u.chain.form 0) u.cell e v.cell

  -- from the chunk u, which had the history h since it was opened as o, each event in its turn is a call, the last of them to the chunk
  -- v; the law holds at u and after each of the calls
  abbrev pub Always : View → History → OpenChunk A B S C a f b n s c → History → OpenChunk A B S C a f b n s c → Type 0
  Always o h u [] v = (v ≡ u) × Law o h (seen v)
  Always o h u (e ∷ es) v = (w : OpenChunk A B S C a f b n s c) × (Always o h u es w × (Makes w e v × Law o (e ∷ (es ++ h)) (seen v)))

  -- the chunk v was opened over the cell, as o, and then made the events. Unless it is shut the law holds at the opening and after
  -- each of them; and if it is, each was refused with that number, and the chunk stays as it was opened
  pub record OpenedAndMade (cell : C) (o : View) (es : History) (v : OpenChunk A B S C a f b n s c) : Type 0 where
    pub first : OpenChunk A B S C a f b n s c
    pub cell_is : first.cell ≡ cell
    pub seen_is : seen first ≡ o
    pub runs : Run Makes first es v
    pub always : o.shut ≡ None → Always o [] first es v
    pub refused : (m : ℕ) → o.shut ≡ Some m → AllRefused m es × (seen v ≡ o) × (v.cell ≡ cell)
