-- The law of an open chunk over every history of calls.
use Rattle.std.specs.Prelude.{◌≡◌, ℕ, Bool, cond, List, [], ◌∷◌, ◌++◌, Some, None, Option}
use Rattle.codec_chain.specs.Place.{Placed}
use Rattle.cells.specs.Cells.{Value}
use Rattle.chunks.specs.Views.{View, chained, encoding, array_of, kept_at}
use Rattle.chunks.specs.Calls.{Ask, Event, Called, reads_subset, reads_range, asks_cached, writes, erases, is_accepted, array_after, answer}

-- the calls since the opening with their answers, refused ones included, the latest first
abbrev pub History : Type 0
History = List Event

-- THE HISTORY'S ARRAY

-- it starts as fill if the cell was absent at the opening o, and else as the cell then decoded
abbrev pub array : View → History → List ℕ
array o [] = array_of o.coder o.cell
array o (e ∷ h) = array_after o.coder e.ask (is_accepted e.answer) (array o h)

-- THE CELL

-- the last write or erasure that was accepted
pub data Change : Type 0 where
  never : Change
  written : Change
  erased : Change

abbrev pub change_after : Ask → Bool → Change → Change
change_after (reads_subset start shape) ok l = l
change_after (reads_range range) ok l = l
change_after asks_cached ok l = l
change_after (writes start shape elements) ok l = cond ok written l
change_after erases ok l = cond ok erased l

abbrev pub last_change : History → Change
last_change [] = never
last_change (e ∷ h) = change_after e.ask (is_accepted e.answer) (last_change h)

-- as found, the whole encoding of an array, or absent
abbrev pub cell_by : Change → View → List ℕ → Value
cell_by never o x = o.cell
cell_by written o x = Some (encoding o.coder x)
cell_by erased o x = None

-- the cell after a history: as found until a write or an erasure is accepted; after that absent if the last of these was an erasure,
-- and else exactly the whole encoding of the history's array
abbrev pub cell : View → History → Value
cell o h = cell_by (last_change h) o (array o h)

-- THE LAW: o is what was seen at the opening, and v what is seen after the history h
pub record Law (o : View) (h : History) (v : View) : Type 0 where
  -- (a) the cell: as found until a write or an erasure is accepted; after that absent if the last of these was an erasure, and else
  -- exactly the whole encoding of the history's array
  pub cell_is : v.cell ≡ cell o h
  -- and the array of the cell is the history's
  pub array_is : array_of v.coder v.cell ≡ array o h
  -- (b) each call of the history was answered by the array and the cell of the history before it: an accepted read of a subset by that
  -- subset of the array, one of a range by those bytes of the cell with all codecs from bytes to bytes undone; and it was refused
  -- exactly if a refusal was due
  pub answers : (later before : History) (e : Event) → h ≡ later ++ (e ∷ before) → e.answer ≡ answer o (cell o before) (array o before) e.ask e.room
  -- (c) there is no cache place where every single has both capabilities, and else it meets the rule and every other that does lies
  -- further along; what is kept is the cell undone to it, or absent with it
  pub kept_is : (place : Option ℕ) × (Placed (chained o.coder).singles place × (v.cached ≡ kept_at o.coder place v.cell))
  -- nothing else changes
  pub coder_is : v.coder ≡ o.coder
  pub capacity_is : v.capacity ≡ o.capacity
  pub shut_is : v.shut ≡ o.shut

-- one call, and the law carried on by it
pub record Carried (v : View) (e : Event) (w : View) : Type 0 where
  pub called : Called v e w
  pub law : (o : View) (h : History) → Law o h v → Law o (e ∷ h) w
