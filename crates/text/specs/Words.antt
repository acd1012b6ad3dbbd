-- The words of a line, and what stands behind the front of one.
use Rattle.std.specs.Prelude.{◌≡◌, ℕ, ◌<◌, cond, Bool, not, ◌||◌, List, ◌++◌, length, take, drop, Option, Some, None, ◌==◌}
use Rattle.std.specs.List.{prefix_len}
use Rattle.std.specs.Str.{bytes_eq}

-- a space, a tab or a carriage return
abbrev pub blank : ℕ → Bool
blank c = c == 32 || (c == 9 || c == 13)

-- the line is blanks, then the word, then the rest, and the word is the longest front with no blank
abbrev pub Word : List ℕ → List ℕ → List ℕ → Type 0
Word line word rest =
    (word ++ rest ≡ drop (prefix_len blank line) line) × (0 < length word) ×
    (prefix_len (λ c. not (blank c)) (word ++ rest) ≡ length word)

-- what stands behind the front of a word, if the word begins with it
abbrev pub behind : List ℕ → List ℕ → Option (List ℕ)
behind front word = cond (bytes_eq (take (length front) word) front) (Some (drop (length front) word)) None
