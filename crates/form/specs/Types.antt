-- The data types: each by its code and by the bytes of an element.
use Rattle.std.specs.Prelude.{ℕ, Bool, ◌&&◌, [], ◌∷◌, None, Option, nat_le, slice_index}
use Rattle.form.specs.declared.data_type.DataType.{DataType}
use Rattle.form.specs.declared.data_type.DataType.TheVariants.{UInt8, Int8, UInt16, Int16, UInt32, Int32, UInt64, Int64, Float32, Float64}
use Rattle.form.specs.Answers.{checked}

abbrev pub code_of : DataType → ℕ
code_of UInt8 = 1
code_of Int8 = 2
code_of UInt16 = 3
code_of Int16 = 4
code_of UInt32 = 5
code_of Int32 = 6
code_of UInt64 = 7
code_of Int64 = 8
code_of Float32 = 9
code_of Float64 = 10

abbrev pub size_of : DataType → ℕ
size_of UInt8 = 1
size_of Int8 = 1
size_of UInt16 = 2
size_of Int16 = 2
size_of UInt32 = 4
size_of Int32 = 4
size_of UInt64 = 8
size_of Int64 = 8
size_of Float32 = 4
size_of Float64 = 8

-- the codes are 1 to 10
abbrev pub is_code : ℕ → Bool
is_code code = nat_le 1 code && nat_le code 10

-- the bytes of an element, by the code; 0 where no data type has it
abbrev pub size_of_code : ℕ → ℕ
size_of_code code = slice_index (0 ∷ 1 ∷ 1 ∷ 2 ∷ 2 ∷ 4 ∷ 4 ∷ 8 ∷ 8 ∷ 4 ∷ 8 ∷ []) code

-- a code that no data type has is refused
abbrev pub code_refusal : ℕ → Option ℕ
code_refusal code = checked (is_code code) 2 None
