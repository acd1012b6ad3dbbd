-- The kinds of vectors, and the words that name them.
use Rattle.std.specs.Prelude.{◌≡◌, ◌↔◌, List, ℕ, Result, Ok, codes}
use Rattle.vectors.specs.declared.kind.Kind.{Kind}
use Rattle.vectors.specs.declared.kind.Kind.TheVariants.{Shuffle, ShuffleRefuse, ChecksumFunction, ChecksumFile, ChecksumFileBad, ShuffleChecksum, ChecksumShuffle, Transpose, Difference, BytesBig, Chain}
use Rattle.vectors.specs.declared.kind.UnknownKind.{UnknownKind}

-- the word for a kind
abbrev pub kind_name : Kind → List ℕ
kind_name Shuffle = codes "shuffle"
kind_name ShuffleRefuse = codes "shuffle-refuse"
kind_name ChecksumFunction = codes "fletcher32-h5func"
kind_name ChecksumFile = codes "fletcher32-hdf5"
kind_name ChecksumFileBad = codes "fletcher32-hdf5-bad"
kind_name ShuffleChecksum = codes "hdf5-shuffle-fletcher"
kind_name ChecksumShuffle = codes "hdf5-fletcher-shuffle"
kind_name Transpose = codes "transpose"
kind_name Difference = codes "difference"
kind_name BytesBig = codes "bytes-big"
kind_name Chain = codes "chain"

-- the result is a kind exactly where the word is its name
abbrev pub Named : List ℕ → Result Kind UnknownKind → Type 0
Named word r = (kind : Kind) → (r ≡ Ok kind) ↔ (kind_name kind ≡ word)
