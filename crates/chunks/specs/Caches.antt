-- What is kept, as a value: no place, absent, or bytes.
use Rattle.std.specs.Prelude.{ℕ, List, [], Some, None, Option}
use Rattle.cells.specs.Cells.{Value}
use Rattle.chunks.specs.declared.cache.Cache.{Cache}
use Rattle.chunks.specs.declared.cache.Cache.TheVariants.{NoPlace, Absent, Bytes}
use Rattle.chunks.specs.declared.cache.Event.{Event}
use Rattle.chunks.specs.declared.cache.Event.TheVariants.{Write, Erase}

abbrev pub cached_of : Cache → Option Value
cached_of NoPlace = None
cached_of Absent = Some None
cached_of (Bytes kept) = Some (Some kept.items)

-- what a cell holds after an event, undone to the place
abbrev pub value_after : Event → Value
value_after (Write bytes) = Some bytes.now
value_after Erase = None

abbrev pub event_bytes : Event → List ℕ
event_bytes (Write bytes) = bytes.now
event_bytes Erase = []
