-- Ranges of bytes.
use Rattle.std.specs.Prelude.{ℕ, ◌+◌, ◌-◌, List, length, Some, None, Bool, nat_le}
use Rattle.cells.specs.Cells.{part}
use Rattle.chunks.specs.declared.byte_range.ByteRange.{ByteRange}
use Rattle.chunks.specs.declared.byte_range.ByteRange.TheVariants.{FromStart, Suffix}

-- where a range starts among n bytes
abbrev pub range_start : ℕ → ByteRange → ℕ
range_start n (FromStart offset count) = offset
range_start n (Suffix count) = n - count

-- how many bytes it has: as many as it says, or all from the offset on
abbrev pub range_length : ℕ → ByteRange → ℕ
range_length n (FromStart offset (Some count)) = count
range_length n (FromStart offset None) = n - offset
range_length n (Suffix count) = count

-- whether it lies within n bytes
abbrev pub in_range : ℕ → ByteRange → Bool
in_range n (FromStart offset (Some count)) = nat_le (offset + count) n
in_range n (FromStart offset None) = nat_le offset n
in_range n (Suffix count) = nat_le count n

-- its bytes
abbrev pub range_of : ByteRange → List ℕ → List ℕ
range_of range xs = part (range_start (length xs) range) (range_length (length xs) range) xs
