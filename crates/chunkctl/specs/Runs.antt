-- Stages of one kind.
use Rattle.std.specs.Prelude.{Bool, true, false, cond, List, [], ◌∷◌, Ok, Err, Result, vec_items}
use Rattle.std.specs.List.{list_all}
use Rattle.std.specs.Global.{Vec}
use Rattle.stage_names.specs.declared.name.StageName.{StageName}
use Rattle.stage_names.specs.declared.name.StageName.TheVariants.{ArrayToArray, ArrayToBytes, BytesToBytes}
use Rattle.chunkctl.specs.declared.trouble.Complaint.{Complaint}
use Rattle.chunkctl.specs.declared.trouble.Complaint.TheVariants.{StageKinds}
use Rattle.chunkctl.specs.declared.command.Run.{Run}
use Rattle.chunkctl.specs.declared.command.Run.TheVariants.{ArrayToArray as ArrayNames, ArrayToBytes as BytesName, BytesToBytes as ByteNames}

abbrev pub is_over_arrays : StageName → Bool
is_over_arrays (ArrayToArray name) = true
is_over_arrays (ArrayToBytes endian) = false
is_over_arrays (BytesToBytes name) = false

abbrev pub is_over_bytes : StageName → Bool
is_over_bytes (ArrayToArray name) = false
is_over_bytes (ArrayToBytes endian) = false
is_over_bytes (BytesToBytes name) = true

-- a run over bytes, which may have no stages, or one over arrays
abbrev pub one_kind : Vec StageName → Result Run Complaint
one_kind names =
    cond (list_all is_over_bytes (vec_items names)) (Ok (ByteNames names))
    (cond (list_all is_over_arrays (vec_items names)) (Ok (ArrayNames names)) (Err StageKinds))

-- one bytes stage is a run, and else stages over bytes or over arrays are
abbrev pub run_from : List StageName → Result Run Complaint → Result Run Complaint
run_from (ArrayToBytes endian ∷ []) kind = Ok (BytesName endian)
run_from _ kind = kind

abbrev pub run_of : Vec StageName → Result Run Complaint
run_of names = run_from (vec_items names) (one_kind names)
