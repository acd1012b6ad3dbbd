-- The refusals: each case of the enum by its number and its values.
use Rattle.std.specs.Prelude.{◌≡◌, ℕ, Bool, cond, List, [], ◌∷◌, ◌++◌, Some, None, Ok, Err, codes, decimal, slice_get, Option, Result}
use Rattle.form.specs.declared.fault.Fault.{Fault}
use Rattle.form.specs.declared.fault.Fault.TheVariants.{Shape, DataType, ArraySize, FillValue, CodecOrder, NoRoom, AxisOrder, ElementSize, Dimensions, Endianness, Multiple, TooLong, Length, BufferShort, Checksum, Capacity, Subset, ByteRange, Absent, CellLayout}

-- what a caller is told of a refusal
pub record Refusal : Type 0 where
  pub number : ℕ
  pub values : List ℕ

-- a refusal that tells its number alone
abbrev pub plain : ℕ → Refusal
plain n = record { number = n; values = [] }

-- the refusal of a failed test, which names the single
abbrev pub failed : ℕ → Refusal
failed k = record { number = 15; values = k ∷ [] }

abbrev pub refusal : Fault → Refusal
refusal Shape = plain 1
refusal DataType = plain 2
refusal ArraySize = plain 3
refusal FillValue = plain 4
refusal CodecOrder = plain 5
refusal NoRoom = plain 6
refusal AxisOrder = plain 7
refusal ElementSize = plain 8
refusal Dimensions = plain 9
refusal Endianness = plain 10
refusal Multiple = plain 11
refusal TooLong = plain 12
refusal Length = plain 13
refusal BufferShort = plain 14
refusal (Checksum k) = failed k
refusal Capacity = plain 16
refusal Subset = plain 17
refusal ByteRange = plain 18
refusal Absent = plain 19
refusal CellLayout = plain 20

-- the first of a refusal's values, if it has one
abbrev pub value_of : Refusal → Option ℕ
value_of r = slice_get r.values 0

-- the single that a failed test names, if it does
abbrev pub at_text : Option ℕ → List ℕ
at_text None = []
at_text (Some k) = codes " at " ++ decimal k

-- a refusal as it is printed
abbrev pub fault_text : Fault → List ℕ
fault_text e = codes "refused " ++ (decimal (refusal e).number ++ at_text (value_of (refusal e)))

-- a call's answer, with the refusal by its number and values
abbrev pub told : {X : Type 0} → Result X Fault → Result X Refusal
told (Ok x) = Ok x
told (Err e) = Err (refusal e)

-- an answer, unless the call is refused with the number that comes first
abbrev pub unless : {X : Type 0} → Option ℕ → Result X Refusal → Result X Refusal
unless None r = r
unless (Some n) r = Err (plain n)

-- an answer, or the refusal with a number where the test is false
abbrev pub only_if : {X : Type 0} → Bool → ℕ → Result X Refusal → Result X Refusal
only_if b n r = cond b r (Err (plain n))

-- a value, or the refusal with a number where there is none
abbrev pub or_refused : {X : Type 0} → Option X → ℕ → Result X Refusal
or_refused (Some x) n = Ok x
or_refused None n = Err (plain n)

-- the number and the values of a refusal tell which case it is
abbrev pub Told : Type 0
Told = (e d : Fault) → refusal e ≡ refusal d → e ≡ d
