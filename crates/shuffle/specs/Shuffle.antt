-- The shuffle of numcodecs: of c elements of e bytes, byte i e + b goes to b c + i.
use Rattle.std.specs.Prelude.{◌≡◌, ℕ, ◌+◌, ◌*◌, ◌/◌, ◌%◌, ◌<◌, ◌≤◌, true, ◌&&◌, List, length, None, Option, ◌==◌, nat_le, slice_index}
use Rattle.form.specs.Answers.{checked}
use Rattle.stage.specs.Single.{Coding, whole_only}
use Rattle.stage.specs.Stage.{too_long}
use Rattle.stage.specs.Gathers.{gathered}

-- the element sizes that are taken
abbrev pub Sized : ℕ → Type 0
Sized e = (1 ≤ e) × (e ≤ 4096)

-- another is refused with 8
abbrev pub size_refusal : ℕ → Option ℕ
size_refusal e = checked (nat_le 1 e && nat_le e 4096) 8 None

-- by the columns of a table of rows times cols, place j rows + i is that of column j in row i, i cols + j
abbrev pub by_columns : ℕ → ℕ → ℕ → ℕ
by_columns rows cols k = (k % rows) * cols + k / rows

-- a table of rows times cols, by columns
abbrev pub turned : ℕ → ℕ → List ℕ → List ℕ
turned rows cols xs = gathered (by_columns rows cols) (rows * cols) xs

-- a length that is no multiple of the element size is refused with 11, and then one over 4,096 with 12
abbrev pub uneven : ℕ → ℕ → Option ℕ
uneven e n = checked (n % e == 0) 11 (too_long n)

-- n bytes in elements of e: the elements are the rows of a table, and the encoded has its columns
abbrev pub shuffling : ℕ → Coding ℕ ℕ
shuffling e = record {
  capability = whole_only;
  refusal = λ n. uneven e n;
  coded = λ n. n;
  encoded = λ n x. turned (n / e) e x;
  decoded = λ n x. turned e (n / e) x;
  test = λ n x. true;
}

-- each byte goes where the format says
abbrev pub Goes : Type 0
Goes = (e n : ℕ) (x : List ℕ) (i b : ℕ)
    → i < n / e
    → b < e
    → slice_index ((shuffling e).encoded n x) (b * (n / e) + i) ≡ slice_index x (i * e + b)

-- decoding what was encoded gives it back
abbrev pub Back : Type 0
Back = (e n : ℕ) (x : List ℕ)
    → n % e ≡ 0
    → length x ≡ n
    → (shuffling e).decoded n ((shuffling e).encoded n x) ≡ x
