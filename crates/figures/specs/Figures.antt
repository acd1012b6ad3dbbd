-- Worked figures, beside what the definitions give.
use Rattle.std.specs.Prelude.{◌≡◌, ℕ, true, false, List, [], ◌∷◌, Some, None, Ok, Err, Option, Result, map, refl}
use Rattle.form.specs.declared.array_form.Form.{Form}
use Rattle.form.specs.declared.data_type.DataType.TheVariants.{UInt8, UInt16, Float32}
use Rattle.form.specs.Forms.{form_refusal}
use Rattle.form.specs.Refusals.{Refusal, failed}
use Rattle.stage.specs.declared.capability.PartialDecoderCapability.{PartialDecoderCapability}
use Rattle.stage.specs.Arrays.{array_bytes}
use Rattle.stage.specs.Single.{single, whole_only, by_parts}
use Rattle.stage.specs.Stage.{Stage}
use Rattle.pair.specs.Compose.{after}
use Rattle.cells.specs.Cells.{Value}
use Rattle.codec_chain.specs.Place.{cache_index}
use Rattle.codec_chain.specs.Whole.{decoded, decode_whole}
use Rattle.shuffle.specs.Shuffle.{shuffling}
use Rattle.fletcher32.specs.Fletcher32.{fletcher32, checksumming}
use Rattle.transpose.specs.Transpose.{transposing}
use Rattle.difference.specs.Difference.{differencing}
use Rattle.bytes_codec.specs.declared.bytes_codec.Endianness.TheVariants.{Big}
use Rattle.bytes_codec.specs.ByteOrder.{byte_ordering}
use Rattle.chunks.specs.declared.byte_range.ByteRange.TheVariants.{Suffix}
use Rattle.chunks.specs.Views.{Coder, View, chained, array_of}
use Rattle.chunks.specs.Calls as calls
use Rattle.chunks.specs.Calls.{Ask, Answer, reads_subset, reads_range, asks_cached, writes, erases, done, gives, cached, event, answer}
use Rattle.chunks.specs.Histories.{History, array, cell}
use Rattle.chunks.specs.Replays.{opened}

abbrev two_words : List ℕ
two_words = 0x00 ∷ 0x01 ∷ 0x00 ∷ 0x02 ∷ []

abbrev three_elements : List ℕ
three_elements = 0x01 ∷ 0x02 ∷ 0x03 ∷ 0x04 ∷ 0x05 ∷ 0x06 ∷ []

abbrev by_columns : List ℕ
by_columns = 0x01 ∷ 0x03 ∷ 0x05 ∷ 0x02 ∷ 0x04 ∷ 0x06 ∷ []

-- arrays of three uint8, of two float32 and of 2 by 3 uint16, these with the fill value 9
abbrev three_bytes : Form
three_bytes = record { lengths = 3 ∷ 1 ∷ 1 ∷ 1 ∷ []; dims = 1; data_type = UInt8; fill = 0 ∷ 0 ∷ 0 ∷ 0 ∷ 0 ∷ 0 ∷ 0 ∷ 0 ∷ []; ok = refl }

abbrev two_floats : Form
two_floats = record { lengths = 2 ∷ 1 ∷ 1 ∷ 1 ∷ []; dims = 1; data_type = Float32; fill = 0 ∷ 0 ∷ 0 ∷ 0 ∷ 0 ∷ 0 ∷ 0 ∷ 0 ∷ []; ok = refl }

abbrev two_by_three : Form
two_by_three = record { lengths = 2 ∷ 3 ∷ 1 ∷ 1 ∷ []; dims = 2; data_type = UInt16; fill = 9 ∷ 0 ∷ 0 ∷ 0 ∷ 0 ∷ 0 ∷ 0 ∷ 0 ∷ []; ok = refl }

-- the two float32 1.0 and 1.5
abbrev floats : List ℕ
floats = 0x00 ∷ 0x00 ∷ 0x80 ∷ 0x3F ∷ 0x00 ∷ 0x00 ∷ 0xC0 ∷ 0x3F ∷ []

-- the order 1, 0 of two axes
abbrev swapped_axes : List ℕ
swapped_axes = 1 ∷ 0 ∷ 0 ∷ 0 ∷ []

-- the uint16 1 to 6 by rows, and transposed
abbrev by_rows : List ℕ
by_rows = 1 ∷ 0 ∷ 2 ∷ 0 ∷ 3 ∷ 0 ∷ 4 ∷ 0 ∷ 5 ∷ 0 ∷ 6 ∷ 0 ∷ []

abbrev transposed : List ℕ
transposed = 1 ∷ 0 ∷ 4 ∷ 0 ∷ 2 ∷ 0 ∷ 5 ∷ 0 ∷ 3 ∷ 0 ∷ 6 ∷ 0 ∷ []

abbrev most_significant_first : List ℕ
most_significant_first = 0 ∷ 1 ∷ 0 ∷ 4 ∷ 0 ∷ 2 ∷ 0 ∷ 5 ∷ 0 ∷ 3 ∷ 0 ∷ 6 ∷ []

-- a transposition, big and fletcher32 by themselves and as a chain, and what it stores
abbrev transposed_coder : Coder
transposed_coder = record {
  arrays = single array_bytes array_bytes (transposing swapped_axes 2);
  to_bytes = single array_bytes (λ n. n) (byte_ordering (Some Big));
  bytes = single (λ n. n) (λ n. n) checksumming;
  form = two_by_three;
}

abbrev transposed_chain : Stage Form ℕ
transposed_chain = chained transposed_coder

abbrev stored : List ℕ
stored = 0x00 ∷ 0x01 ∷ 0x00 ∷ 0x04 ∷ 0x00 ∷ 0x02 ∷ 0x00 ∷ 0x05 ∷ 0x00 ∷ 0x03 ∷ 0x00 ∷ 0x06 ∷ 0x15 ∷ 0x00 ∷ 0x3D ∷ 0x00 ∷ []

-- the same with a byte damaged
abbrev damaged : List ℕ
damaged = 0x00 ∷ 0x01 ∷ 0x00 ∷ 0x04 ∷ 0x00 ∷ 0x02 ∷ 0x00 ∷ 0x05 ∷ 0x00 ∷ 0x03 ∷ 0x00 ∷ 0x07 ∷ 0x15 ∷ 0x00 ∷ 0x3D ∷ 0x00 ∷ []

-- the differences and the bytes codec
abbrev difference_chain : Stage Form ℕ
difference_chain = after (single array_bytes (λ n. n) (byte_ordering (Some Big))) (single array_bytes array_bytes differencing)

-- a single that decodes a part, of all that it reads
abbrev of_whole_input : PartialDecoderCapability
of_whole_input = record { partial_read = false; partial_decode = true }

-- checksums of no bytes, of two words, of a word of ones and of three bytes; a stored checksum, and the length with one; a shuffle
-- by 2 and back; differences of integers, back, and of floats; a transposition, back, and its lengths; big, and back; a chain, and back
abbrev computed : List (List ℕ)
computed =
    (fletcher32 [] ∷ fletcher32 two_words ∷ fletcher32 (0xFF ∷ 0xFF ∷ []) ∷ fletcher32 (0x01 ∷ 0x00 ∷ 0x02 ∷ []) ∷ [])
    ∷ checksumming.encoded 4 two_words
    ∷ (checksumming.coded 4092 ∷ [])
    ∷ (shuffling 2).encoded 6 three_elements
    ∷ (shuffling 2).decoded 6 by_columns
    ∷ differencing.encoded three_bytes (5 ∷ 3 ∷ 10 ∷ [])
    ∷ differencing.decoded three_bytes (5 ∷ 254 ∷ 7 ∷ [])
    ∷ differencing.encoded two_floats floats
    ∷ (transposing swapped_axes 2).encoded two_by_three by_rows
    ∷ (transposing swapped_axes 2).decoded two_by_three transposed
    ∷ ((transposing swapped_axes 2).coded two_by_three).lengths
    ∷ (byte_ordering (Some Big)).encoded two_by_three transposed
    ∷ (byte_ordering (Some Big)).decoded two_by_three most_significant_first
    ∷ transposed_chain.encoded two_by_three by_rows
    ∷ decoded transposed_chain two_by_three stored
    ∷ []

abbrev worked : List (List ℕ)
worked =
    (0x00000000 ∷ 0x00040003 ∷ 0xFFFFFFFF ∷ 0x04000300 ∷ [])
    ∷ (0x00 ∷ 0x01 ∷ 0x00 ∷ 0x02 ∷ 0x03 ∷ 0x00 ∷ 0x04 ∷ 0x00 ∷ [])
    ∷ (4096 ∷ [])
    ∷ by_columns
    ∷ three_elements
    ∷ (5 ∷ 254 ∷ 7 ∷ [])
    ∷ (5 ∷ 3 ∷ 10 ∷ [])
    ∷ (0x00 ∷ 0x00 ∷ 0x80 ∷ 0x3F ∷ 0x00 ∷ 0x00 ∷ 0x40 ∷ 0x00 ∷ [])
    ∷ transposed
    ∷ by_rows
    ∷ (3 ∷ 2 ∷ 1 ∷ 1 ∷ [])
    ∷ most_significant_first
    ∷ transposed
    ∷ stored
    ∷ by_rows
    ∷ []

-- where the two chains and some singles keep what they decode; not where every single has both capabilities
abbrev places : List (Option ℕ)
places =
    cache_index transposed_chain.singles
    ∷ cache_index (whole_only ∷ by_parts ∷ of_whole_input ∷ by_parts ∷ [])
    ∷ cache_index difference_chain.singles
    ∷ cache_index (by_parts ∷ by_parts ∷ [])
    ∷ []

abbrev kept : List (Option ℕ)
kept = Some 1 ∷ Some 2 ∷ Some 2 ∷ None ∷ []

-- what decoding the chain's bytes answers with checks on, and the damaged ones with checks on and off
abbrev answers : List (Result ℕ Refusal)
answers =
    decode_whole array_bytes transposed_chain two_by_three true stored 4096 4096 4096
    ∷ decode_whole array_bytes transposed_chain two_by_three true damaged 4096 4096 4096
    ∷ decode_whole array_bytes transposed_chain two_by_three false damaged 4096 4096 4096
    ∷ []

abbrev given : List (Result ℕ Refusal)
given = Ok 12 ∷ Err (failed 0) ∷ Ok 12 ∷ []

-- what 4,096 elements of uint8 and one more are refused with, and 4,092 bytes under fletcher32 and one more
abbrev refusals : List (Option ℕ)
refusals =
    form_refusal (4096 ∷ []) 1 (0 ∷ [])
    ∷ form_refusal (4097 ∷ []) 1 (0 ∷ [])
    ∷ checksumming.refusal 4092
    ∷ checksumming.refusal 4093
    ∷ []

abbrev refused : List (Option ℕ)
refused = None ∷ Some 3 ∷ None ∷ Some 12 ∷ []

-- A CHUNK OF THAT CHAIN, opened on what it stores

abbrev chunk : View
chunk = opened transposed_coder 16 (Some stored) 4096 4096

-- a read of the middle column, and a write of the elements 7 and 8 there
abbrev reads_column : Ask
reads_column = reads_subset (0 ∷ 1 ∷ []) (2 ∷ 1 ∷ [])

abbrev writes_column : Ask
writes_column = writes (0 ∷ 1 ∷ []) (2 ∷ 1 ∷ []) (7 ∷ 0 ∷ 8 ∷ 0 ∷ [])

-- a read of the last two bytes under the checksum
abbrev reads_last_two : Ask
reads_last_two = reads_range (Suffix 2)

-- the write alone, and an erasure after it
abbrev column_written : History
column_written = event writes_column 0 4096 4096 done ∷ []

abbrev then_erased : History
then_erased = event erases 0 0 0 done ∷ column_written

-- the array after the opening, after the write and after the erasure
abbrev arrays : List (List ℕ)
arrays = array chunk [] ∷ array chunk column_written ∷ array chunk then_erased ∷ []

abbrev worked_arrays : List (List ℕ)
worked_arrays =
    by_rows
    ∷ (1 ∷ 0 ∷ 7 ∷ 0 ∷ 3 ∷ 0 ∷ 4 ∷ 0 ∷ 8 ∷ 0 ∷ 6 ∷ 0 ∷ [])
    ∷ (9 ∷ 0 ∷ 9 ∷ 0 ∷ 9 ∷ 0 ∷ 9 ∷ 0 ∷ 9 ∷ 0 ∷ 9 ∷ 0 ∷ [])
    ∷ []

-- the cell then, and the array that it holds
abbrev cells : List Value
cells = cell chunk [] ∷ cell chunk column_written ∷ cell chunk then_erased ∷ []

abbrev worked_cells : List Value
worked_cells =
    Some stored
    ∷ Some (0x00 ∷ 0x01 ∷ 0x00 ∷ 0x04 ∷ 0x00 ∷ 0x07 ∷ 0x00 ∷ 0x08 ∷ 0x00 ∷ 0x03 ∷ 0x00 ∷ 0x06 ∷ 0x1D ∷ 0x00 ∷ 0x5A ∷ 0x00 ∷ [])
    ∷ None
    ∷ []

abbrev held : List (List ℕ)
held = map (array_of transposed_coder) worked_cells

-- what a call is answered after a history, with room for all
abbrev asked : History → Ask → Answer
asked h ask = answer chunk (cell chunk h) (array chunk h) ask (record { output = 4096; work = 4096; scratch = 4096 })

-- calls after the opening, after the write and after the erasure
abbrev calls_answered : List Answer
calls_answered =
    asked [] reads_column
    ∷ asked [] asks_cached
    ∷ asked [] writes_column
    ∷ asked column_written reads_column
    ∷ asked column_written reads_last_two
    ∷ asked column_written asks_cached
    ∷ asked column_written erases
    ∷ asked then_erased reads_column
    ∷ asked then_erased reads_last_two
    ∷ asked then_erased asks_cached
    ∷ []

abbrev worked_answers : List Answer
worked_answers =
    gives (2 ∷ 0 ∷ 5 ∷ 0 ∷ [])
    ∷ cached (Some (Some most_significant_first))
    ∷ done
    ∷ gives (7 ∷ 0 ∷ 8 ∷ 0 ∷ [])
    ∷ gives (0x00 ∷ 0x06 ∷ [])
    ∷ cached (Some (Some (0x00 ∷ 0x01 ∷ 0x00 ∷ 0x04 ∷ 0x00 ∷ 0x07 ∷ 0x00 ∷ 0x08 ∷ 0x00 ∷ 0x03 ∷ 0x00 ∷ 0x06 ∷ [])))
    ∷ done
    ∷ gives (9 ∷ 0 ∷ 9 ∷ 0 ∷ [])
    ∷ calls.refused 19
    ∷ cached (Some None)
    ∷ []

abbrev pub ChunkFigures : Type 0
ChunkFigures = (arrays ≡ worked_arrays) × (cells ≡ worked_cells) × (held ≡ worked_arrays) × (calls_answered ≡ worked_answers)

abbrev pub Figures : Type 0
Figures = (computed ≡ worked) × (refusals ≡ refused) × (places ≡ kept) × (answers ≡ given) × ChunkFigures
