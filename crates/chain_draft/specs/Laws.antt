-- The laws of four byte codecs in their seats.
use Rattle.std.specs.Prelude.{ℕ}
use Rattle.stage.specs.Stage.{Laws}
use Rattle.stage.proofs.OneSingle.{single_laws}
use Rattle.pair.specs.declared.Pair.{Pair}
use Rattle.pair.specs.Compose.{after}
use Rattle.pair.specs.Composition.{after_laws}
use Rattle.base_codecs.specs.Emptiness.{empty_laws}
use Rattle.base_codecs.specs.Choosing.{chosen_laws}
use Rattle.shuffle.specs.Shuffle.{shuffling}
use Rattle.shuffle.specs.Laws.{shuffling_laws}
use Rattle.fletcher32.specs.Fletcher32.{checksumming}
use Rattle.fletcher32.specs.Laws.{checksumming_laws}
use Rattle.byte_codecs.specs.Chosen.{ByteCodec, chosen_stage}

-- how many bytes a length has
abbrev pub bytes : ℕ → ℕ
bytes n = n

pub byte_codec_laws : (c : ByteCodec) → Laws bytes bytes (chosen_stage c)
byte_codec_laws =
    chosen_laws bytes bytes _ _ (λ c. empty_laws bytes)
    (chosen_laws bytes bytes _ _
    (λ c. single_laws bytes bytes (shuffling c.codec.elementsize) (shuffling_laws c.codec.elementsize))
    (λ c. single_laws bytes bytes checksumming checksumming_laws))

pub two_laws : (o i : ByteCodec) → Laws bytes bytes (after (chosen_stage o) (chosen_stage i))
two_laws o i = after_laws bytes bytes bytes (chosen_stage o) (chosen_stage i) (byte_codec_laws o) (byte_codec_laws i)

pub four_laws : (p : Pair (Pair ByteCodec ByteCodec) (Pair ByteCodec ByteCodec))
    → Laws bytes bytes (after (after (chosen_stage p.outer.outer) (chosen_stage p.outer.inner)) (after (chosen_stage p.inner.outer) (chosen_stage p.inner.inner)))
four_laws p = after_laws bytes bytes bytes _ _ (two_laws p.outer.outer p.outer.inner) (two_laws p.inner.outer p.inner.inner)
