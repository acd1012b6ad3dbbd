-- How many vectors of each kind were equal, and how many differed.
use Rattle.std.specs.Prelude.{ℕ, ◌+◌, ◌-◌, ◌^◌, min, Bool, true, false, List, ◌++◌, slice_index_or, decimal, codes}
use Rattle.vectors.specs.declared.kind.Kind.{Kind}
use Rattle.vectors.specs.declared.kind.Kind.TheVariants.{Shuffle, ShuffleRefuse, ChecksumFunction, ChecksumFile, ChecksumFileBad, ShuffleChecksum, ChecksumShuffle, Transpose, Difference, BytesBig, Chain}
use Rattle.vectors.specs.declared.kind.Count.{Count}
use Rattle.vectors.specs.declared.kind.Tally.{Tally}

-- the place of a kind among the counts
abbrev pub place_of : Kind → ℕ
place_of Shuffle = 0
place_of ShuffleRefuse = 1
place_of ChecksumFunction = 2
place_of ChecksumFile = 3
place_of ChecksumFileBad = 4
place_of ShuffleChecksum = 5
place_of ChecksumShuffle = 6
place_of Transpose = 7
place_of Difference = 8
place_of BytesBig = 9
place_of Chain = 10

abbrev pub no_count : Count
no_count = record { equal = 0; differ = 0 }

abbrev pub count_of : Tally → Kind → Count
count_of tally kind = slice_index_or tally.counts (place_of kind) no_count

-- the count with one more, at most 2 ^ 64 - 1
abbrev pub one_more : Bool → Count → Count
one_more true c = record c { equal = min (c.equal + 1) (2 ^ 64 - 1) }
one_more false c = record c { differ = min (c.differ + 1) (2 ^ 64 - 1) }

abbrev pub count_text : Count → List ℕ
count_text c = decimal c.equal ++ codes " equal, " ++ decimal c.differ ++ codes " differ"
