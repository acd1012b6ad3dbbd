-- How a line says a vector.
use Rattle.std.specs.Prelude.{◌≡◌, ℕ, Bool, true, is_none, vec_items, List, [], ◌∷◌, length, Some, ◌==◌, codes}
use Rattle.std.specs.List.{prefix_len}
use Rattle.std.specs.Option.{option_map}
use Rattle.std.specs.Str.{bytes_eq}
use Rattle.text.specs.Hex.{hex_parsed}
use Rattle.text.specs.Words.{blank, Word}
use Rattle.vectors.specs.Kind.{kind_name}
use Rattle.vectors.specs.Params.{params_of, said}
use Rattle.vectors.specs.declared.vector.Vector.{Vector}
use Rattle.vectors.specs.declared.vector.ParseError.{ParseError}
use Rattle.vectors.specs.declared.vector.ParseError.TheVariants.{Malformed, OutOfMemory}

abbrev pub error_text : ParseError → List ℕ
error_text Malformed = codes "no vector"
error_text OutOfMemory = codes "out of memory"

-- an empty line, or one that begins with #
abbrev pub is_comment : List ℕ → Bool
is_comment [] = true
is_comment (c ∷ cs) = c == 35

-- the words of a line, in order
abbrev pub SplitsInto : List ℕ → List (List ℕ) → Type 0
SplitsInto line [] = prefix_len blank line ≡ length line
SplitsInto line (w ∷ ws) = (rest : List ℕ) × Word line w rest × SplitsInto rest ws

-- the words of the line are the vector's kind, its parameters, its input, its output and the peer
abbrev pub SaysVector : List ℕ → Vector → Type 0
SaysVector line v =
    (params : List ℕ) × (input : List ℕ) × (output : List ℕ) × (peer : List ℕ) × SplitsInto line (kind_name v.kind ∷ params ∷ input ∷ output ∷ peer ∷ []) ×
    (params_of params ≡ Some (said v.params)) × (hex_parsed input ≡ Some (vec_items v.input)) × (hex_parsed output ≡ option_map vec_items v.output) × (is_none v.output ≡ bytes_eq output (codes "!"))
