-- The words that say stages.
use Rattle.std.specs.Prelude.{◌≡◌, ◌↔◌, ℕ, cond, List, ◌++◌, Option, Some, None, codes, vec_items}
use Rattle.std.specs.Option.{option_map, option_and_then, option_or}
use Rattle.std.specs.Str.{bytes_eq}
use Rattle.text.specs.List.{listed, all_said}
use Rattle.text.specs.Number.{number_of}
use Rattle.text.specs.Words.{behind}
use Rattle.bytes_codec.specs.declared.bytes_codec.Endianness.{Endianness}
use Rattle.bytes_codec.specs.declared.bytes_codec.Endianness.TheVariants.{Little, Big}
use Rattle.stage_names.specs.declared.name.ArrayName.{ArrayName}
use Rattle.stage_names.specs.declared.name.ArrayName.TheVariants.{Transpose, Difference}
use Rattle.stage_names.specs.declared.name.ByteName.{ByteName}
use Rattle.stage_names.specs.declared.name.ByteName.TheVariants.{Shuffle, Fletcher32}
use Rattle.stage_names.specs.declared.name.StageName.{StageName}
use Rattle.stage_names.specs.declared.name.StageName.TheVariants.{ArrayToArray, ArrayToBytes, BytesToBytes}

-- what a word says of a stage
pub data SaidStage : Type 0 where
  SaidTranspose : (order : List ℕ) → SaidStage
  SaidDifference : SaidStage
  SaidBytes : (endian : Option Endianness) → SaidStage
  SaidShuffle : (size : ℕ) → SaidStage
  SaidFletcher32 : SaidStage

abbrev pub said_array : ArrayName → SaidStage
said_array (Transpose order) = SaidTranspose (vec_items order)
said_array Difference = SaidDifference

abbrev pub said_byte : ByteName → SaidStage
said_byte (Shuffle size) = SaidShuffle size
said_byte Fletcher32 = SaidFletcher32

abbrev pub said_stage : StageName → SaidStage
said_stage (ArrayToArray name) = said_array name
said_stage (ArrayToBytes endian) = SaidBytes endian
said_stage (BytesToBytes name) = said_byte name

-- `difference`, or `transpose:` and numbers that commas join
abbrev pub array_of : List ℕ → Option SaidStage
array_of word =
    cond (bytes_eq word (codes "difference")) (Some SaidDifference)
    (option_map SaidTranspose (option_and_then (λ order. all_said number_of (listed 44 order)) (behind (codes "transpose:") word)))

-- a byte order, or none of them
abbrev pub endian_of : List ℕ → Option (Option Endianness)
endian_of word =
    cond (bytes_eq word (codes "little")) (Some (Some Little))
    (cond (bytes_eq word (codes "big")) (Some (Some Big)) (cond (bytes_eq word (codes "none")) (Some None) None))

-- `bytes:` and a byte order
abbrev pub bytes_of : List ℕ → Option SaidStage
bytes_of word = option_map SaidBytes (option_and_then endian_of (behind (codes "bytes:") word))

-- `fletcher32`, or `shuffle:` and a number
abbrev pub byte_of : List ℕ → Option SaidStage
byte_of word =
    cond (bytes_eq word (codes "fletcher32")) (Some SaidFletcher32)
    (option_map SaidShuffle (option_and_then number_of (behind (codes "shuffle:") word)))

-- a stage of any kind
abbrev pub stage_of : List ℕ → Option SaidStage
stage_of word = option_or (bytes_of word) (option_or (byte_of word) (array_of word))

-- stages that `+` joins, or `-` for none
abbrev pub stages_of : List ℕ → Option (List SaidStage)
stages_of word = all_said stage_of (listed 43 word)

-- the words that say a stage
abbrev pub IsWordOf : SaidStage → List ℕ → Type 0
IsWordOf (SaidTranspose order) word =
    (numbers : List ℕ) × (word ≡ codes "transpose:" ++ numbers) × (all_said number_of (listed 44 numbers) ≡ Some order)
IsWordOf SaidDifference word = word ≡ codes "difference"
IsWordOf (SaidBytes (Some Little)) word = word ≡ codes "bytes:little"
IsWordOf (SaidBytes (Some Big)) word = word ≡ codes "bytes:big"
IsWordOf (SaidBytes None) word = word ≡ codes "bytes:none"
IsWordOf (SaidShuffle size) word = (digits : List ℕ) × (word ≡ codes "shuffle:" ++ digits) × (number_of digits ≡ Some size)
IsWordOf SaidFletcher32 word = word ≡ codes "fletcher32"

-- a word is read as a stage exactly where it is a word of that stage
abbrev pub StageWords : Type 0
StageWords = (word : List ℕ) (stage : SaidStage) → (stage_of word ≡ Some stage) ↔ IsWordOf stage word
