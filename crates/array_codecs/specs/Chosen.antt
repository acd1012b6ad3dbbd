-- A codec from arrays to arrays that is chosen at run time, as a stage.
use Rattle.form.specs.declared.array_form.Form.{Form}
use Rattle.stage.specs.Stage.{Stage}
use Rattle.stage.specs.Arrays.{array_bytes}
use Rattle.stage.specs.Single.{single}
use Rattle.base_codecs.specs.declared.chosen.Chosen.{Chosen}
use Rattle.base_codecs.specs.declared.empty.Empty.{Empty}
use Rattle.base_codecs.specs.declared.single.Single.{Single}
use Rattle.base_codecs.specs.Empty.{empty_stage}
use Rattle.base_codecs.specs.Chosen.{chosen}
use Rattle.transpose.specs.declared.transpose_codec.TransposeCodec.{TransposeCodec}
use Rattle.transpose.specs.Transpose.{transposing}
use Rattle.difference.specs.declared.difference_codec.DifferenceCodec.{DifferenceCodec}
use Rattle.difference.specs.Difference.{differencing}

abbrev pub ArrayCodec : Type 0
ArrayCodec = Chosen (Empty Form) (Chosen (Single TransposeCodec) (Single DifferenceCodec))

abbrev pub chosen_array : ArrayCodec → Stage Form Form
chosen_array =
    chosen (λ c. empty_stage array_bytes)
    (chosen (λ c. single array_bytes array_bytes (transposing c.codec.order c.codec.dims)) (λ c. single array_bytes array_bytes differencing))
