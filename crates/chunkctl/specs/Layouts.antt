-- How a cell lies in its buffer.
use Rattle.std.specs.Prelude.{◌≡◌, ℕ, Bool, true, cond, List, None, Option, vec_items}
use Rattle.cells.specs.Cells.{Value, marked, slot_capacity, slot_fits}
use Rattle.cells.specs.Pages.{gathered, place, pages_capacity, pages_fit}
use Rattle.chunkctl.specs.declared.command.Layout.{Layout}
use Rattle.chunkctl.specs.declared.command.Layout.TheVariants.{Slot, Pages}

-- a cell so laid out in a buffer of so many bytes can have the marked value
abbrev pub layout_fits : ℕ → Layout → Option ℕ → Bool
layout_fits size Slot mark = slot_fits size mark
layout_fits size (Pages pages) mark = pages_fit size (vec_items pages) mark

abbrev pub layout_capacity : ℕ → Layout → ℕ
layout_capacity size Slot = slot_capacity size
layout_capacity size (Pages pages) = pages_capacity (vec_items pages)

-- the value that a mark gives
abbrev pub laid : Layout → Option ℕ → List ℕ → Value
laid Slot mark buffer = marked mark buffer
laid (Pages pages) mark buffer = marked mark (gathered buffer (vec_items pages))

-- where byte m of a value lies
abbrev pub seat : Layout → ℕ → ℕ
seat Slot = λ m. m
seat (Pages pages) = place (vec_items pages)

-- a cell over a buffer of so many bytes, by what is seen of it: as the check decides
abbrev pub MadeAs : {C : Type 0} → (C → Value) → (C → ℕ) → (C → List ℕ) → (C → ℕ → ℕ) → ℕ → Layout → Option ℕ → List ℕ → C → Type 0
MadeAs value capacity behind place size layout mark buffer c =
    (behind c ≡ buffer)
    × (layout_fits size layout mark ≡ true → place c ≡ seat layout)
    × (capacity c ≡ cond (layout_fits size layout mark) (layout_capacity size layout) 0)
    × (value c ≡ cond (layout_fits size layout mark) (laid layout mark buffer) None)
