-- Stages of a run.
use Rattle.std.specs.Prelude.{◌≡◌, List, ◌∷◌, map, None, Ok, Result, vec_items}
use Rattle.std.specs.Global.{Vec}
use Rattle.form.specs.declared.fault.Fault.{Fault}
use Rattle.chain_draft.specs.Seal.{array_stages, byte_stages}
use Rattle.stage_names.specs.declared.name.StageName.{StageName}
use Rattle.stage_names.specs.Names.{SaidStage, SaidBytes, said_stage}
use Rattle.stage_names.specs.Drafting.{Drafted}
use Rattle.chunkctl.specs.declared.command.Run.{Run}
use Rattle.chunkctl.specs.declared.command.Run.TheVariants.{ArrayToArray as ArrayNames, ArrayToBytes as BytesName, BytesToBytes as ByteNames}
use Rattle.chunkctl.specs.declared.stages.Stages.{Stages}
use Rattle.chunkctl.specs.declared.stages.Stages.TheVariants.{ArrayToArray, ArrayToBytes, BytesToBytes}

-- what the words say
abbrev pub said : Vec StageName → List SaidStage
said names = map said_stage (vec_items names)

-- a run over arrays is what a draft has before the bytes codec, and one over bytes what it has behind a bytes codec
abbrev pub Built : Run → Result Stages Fault → Type 0
Built (ArrayNames names) result = Drafted (said names) (λ draft r. r ≡ Ok (ArrayToArray (array_stages draft.array_to_array.items))) result
Built (BytesName endian) result = result ≡ Ok (ArrayToBytes (record { codec = record { endian = endian } }))
Built (ByteNames names) result =
    Drafted (SaidBytes None ∷ said names) (λ draft r. r ≡ Ok (BytesToBytes (byte_stages draft.bytes_to_bytes.items))) result
