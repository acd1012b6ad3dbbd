-- What there is to see of an open chunk: its chain with the form, its cell, and what is kept of it.
use Rattle.std.specs.Prelude.{ℕ, zero, suc, List, [], ◌++◌, Some, None, Option, option_map}
use Rattle.form.specs.declared.array_form.Form.{Form}
use Rattle.form.specs.Forms.{fill_of}
use Rattle.stage.specs.Stage.{Stage}
use Rattle.stage.specs.Arrays.{element_count}
use Rattle.pair.specs.Compose.{after}
use Rattle.codec_chain.specs.Whole.{decoded}
use Rattle.codec_chain.specs.Place.{cache_index}
use Rattle.cells.specs.Cells.{Value}

-- the codecs of a chain, by what they mean, and the form of its arrays
pub record Coder : Type 0 where
  pub arrays : Stage Form Form
  pub to_bytes : Stage Form ℕ
  pub bytes : Stage ℕ ℕ
  pub form : Form

-- all of them as one stage
abbrev pub chained : Coder → Stage Form ℕ
chained c = after c.bytes (after c.to_bytes c.arrays)

-- what the codecs from bytes to bytes are given: the length of what the codecs before them make of an array
abbrev pub plain_length : Coder → ℕ
plain_length c = c.to_bytes.coded (c.arrays.coded c.form)

-- the encoding of an array: by the codecs from arrays to arrays first, then by the one from arrays to bytes, then by those from
-- bytes to bytes
abbrev pub encoding : Coder → List ℕ → List ℕ
encoding c x = c.bytes.encoded (plain_length c) (c.to_bytes.encoded (c.arrays.coded c.form) (c.arrays.encoded c.form x))

-- an element, n times
abbrev pub repeated : ℕ → List ℕ → List ℕ
repeated zero element = []
repeated (suc n) element = element ++ repeated n element

-- an array that has the fill value everywhere
abbrev pub all_fill : Form → List ℕ
all_fill f = repeated (element_count f) (fill_of f)

-- the array of a cell's value: all fill if it is absent, and else the value decoded, with checks off
abbrev pub array_of : Coder → Value → List ℕ
array_of c None = all_fill c.form
array_of c (Some encoded) = decoded (chained c) c.form encoded

-- the bytes of a cell with all codecs from bytes to bytes undone, with checks off
abbrev pub plain : Coder → List ℕ → List ℕ
plain c encoded = decoded c.bytes (plain_length c) encoded

-- what is kept of a cell's value: nothing where there is no place for it, and else the value undone to that place, with checks off,
-- or absent with it
abbrev pub kept_at : Coder → Option ℕ → Value → Option Value
kept_at c place value = option_map (λ k. option_map ((chained c).undone c.form 0 k) value) place

abbrev pub kept : Coder → Value → Option Value
kept c value = kept_at c (cache_index (chained c).singles) value

-- what is seen of an open chunk
pub record View : Type 0 where
  pub coder : Coder
  -- how much its cell can hold
  pub capacity : ℕ
  -- the number of the refusal with which it is shut, if it is
  pub shut : Option ℕ
  -- the cell's value
  pub cell : Value
  -- what is kept: no place, absent, or bytes
  pub cached : Option Value
