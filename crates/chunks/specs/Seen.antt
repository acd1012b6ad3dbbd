-- What is seen of a fitted chain and of an open chunk.
use Rattle.std.specs.Prelude.{ℕ, Option, option_map}
use Rattle.form.specs.declared.array_form.Form.{Form}
use Rattle.form.specs.declared.fault.Fault.{Fault}
use Rattle.form.specs.Refusals.{refusal}
use Rattle.stage.specs.declared.codec.Codec.{Ghosts as CodecGhosts}
use Rattle.stage.specs.declared.codec.Representation.{Ghosts as FormGhosts}
use Rattle.codec_chain.specs.declared.fitted_chain.FittedChain.{FittedChain}
use Rattle.cells.specs.declared.cell.Cell.{Ghosts as CellGhosts}
use Rattle.chunks.specs.declared.open_chunk.OpenChunk.{OpenChunk}
use Rattle.chunks.specs.Caches.{cached_of}
use Rattle.chunks.specs.Views.{Coder, View}
use Rattle.chunks.specs.Sound.{coder_of}

abbrev pub number_of : Option Fault → Option ℕ
number_of shut = option_map (λ e. (refusal e).number) shut

module _ {A B S : Type 0} {a : CodecGhosts A Form Form} {f : FormGhosts Form} {b : CodecGhosts B Form ℕ} {n : FormGhosts ℕ} {s : CodecGhosts S ℕ ℕ} where
  abbrev pub coder : FittedChain A B S a f b n s → Coder
  coder x = coder_of a.meaning b.meaning s.meaning x.chain.stages x.form

module _ {A B S C : Type 0} {a : CodecGhosts A Form Form} {f : FormGhosts Form} {b : CodecGhosts B Form ℕ} {n : FormGhosts ℕ} {s : CodecGhosts S ℕ ℕ} {c : CellGhosts C} where
  abbrev pub seen : OpenChunk A B S C a f b n s c → View
  seen x = record {
    coder = coder x.chain;
    capacity = c.capacity x.cell;
    shut = number_of x.shut;
    cell = c.value x.cell;
    cached = cached_of x.cache;
  }
