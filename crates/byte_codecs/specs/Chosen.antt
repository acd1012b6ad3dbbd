-- A byte codec that is chosen at run time, as a stage.
use Rattle.std.specs.Prelude.{ℕ}
use Rattle.stage.specs.Stage.{Stage}
use Rattle.stage.specs.Single.{single}
use Rattle.base_codecs.specs.declared.chosen.Chosen.{Chosen}
use Rattle.base_codecs.specs.declared.empty.Empty.{Empty}
use Rattle.base_codecs.specs.declared.single.Single.{Single}
use Rattle.base_codecs.specs.Empty.{empty_stage}
use Rattle.base_codecs.specs.Chosen.{chosen}
use Rattle.shuffle.specs.declared.shuffle_codec.ShuffleCodec.{ShuffleCodec}
use Rattle.shuffle.specs.Shuffle.{shuffling}
use Rattle.fletcher32.specs.declared.fletcher32_codec.Fletcher32Codec.{Fletcher32Codec}
use Rattle.fletcher32.specs.Fletcher32.{checksumming}

abbrev pub ByteCodec : Type 0
ByteCodec = Chosen (Empty ℕ) (Chosen (Single ShuffleCodec) (Single Fletcher32Codec))

abbrev pub chosen_stage : ByteCodec → Stage ℕ ℕ
chosen_stage =
    chosen (λ c. empty_stage (λ n. n))
    (chosen (λ c. single (λ n. n) (λ n. n) (shuffling c.codec.elementsize)) (λ c. single (λ n. n) (λ n. n) checksumming))
