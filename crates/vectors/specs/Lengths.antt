-- What running a vector leaves of the buffers.
use Rattle.std.specs.Prelude.{◌≡◌, vec_len}
use Rattle.buffers.specs.declared.Buffers.{Buffers}

-- each buffer has as many bytes as before
abbrev pub SameLengths : Buffers → Buffers → Type 0
SameLengths old new = (vec_len new.output ≡ vec_len old.output) × (vec_len new.work ≡ vec_len old.work) × (vec_len new.scratch ≡ vec_len old.scratch)
