-- The checksum fletcher32 as HDF5 computes it, and the codec that appends it.
use Rattle.std.specs.Prelude.{ℕ, ◌+◌, ◌-◌, ◌*◌, ◌/◌, ◌%◌, cond, List, [], ◌∷◌, ◌++◌, take, drop, ◌==◌, slice_index}
use Rattle.stage.specs.Single.{Coding, whole_only}
use Rattle.stage.specs.Stage.{too_long}

-- the words of the bytes: the first of two, or a last single one, is the upper half
abbrev pub words : List ℕ → List ℕ
words [] = []
words (a ∷ []) = 256 * a ∷ []
words (a ∷ b ∷ rest) = (256 * a + b) ∷ words rest

abbrev pub sum : List ℕ → ℕ
sum [] = 0
sum (w ∷ ws) = w + sum ws

-- the running sums of the words, begun at s
abbrev pub running : ℕ → List ℕ → List ℕ
running s [] = []
running s (w ∷ ws) = (s + w) ∷ running (s + w) ws

-- a sum folded to 16 bits: only 0 gives 0
abbrev pub folded : ℕ → ℕ
folded v = cond (v == 0) 0 (1 + (v - 1) % 65535)

abbrev pub fletcher32 : List ℕ → ℕ
fletcher32 x = 65536 * folded (sum (running 0 (words x))) + folded (sum (words x))

-- a checksum as it is stored, the least byte first
abbrev pub stored : ℕ → List ℕ
stored c = c % 256 ∷ c / 256 % 256 ∷ c / 65536 % 256 ∷ c / 16777216 % 256 ∷ []

-- the checksum that four bytes store
abbrev pub loaded : List ℕ → ℕ
loaded x = slice_index x 0 + slice_index x 1 * 256 + slice_index x 2 * 65536 + slice_index x 3 * 16777216

-- n bytes, and after them their checksum
abbrev pub checksumming : Coding ℕ ℕ
checksumming = record {
  capability = whole_only;
  refusal = λ n. too_long (n + 4);
  coded = λ n. n + 4;
  encoded = λ n x. x ++ stored (fletcher32 x);
  decoded = λ n x. take n x;
  test = λ n x. (loaded (drop n x) == fletcher32 (take n x));
}
