-- Lists in a word.
use Rattle.std.specs.Prelude.{◌≡◌, ◌≢◌, ℕ, cond, List, [], ◌∷◌, Some, Option, ◌==◌, codes}
use Rattle.std.specs.List.{slice_split, join_with_byte, AllByRecursion}
use Rattle.std.specs.Str.{bytes_eq}
use Rattle.text.specs.Hex.{in_front}

-- the parts of a word that a separator joins
abbrev pub parts_of : ℕ → List ℕ → List (List ℕ)
parts_of separator word = slice_split (λ b. b == separator) word

-- the same of a word for a list: `-` has none
abbrev pub listed : ℕ → List ℕ → List (List ℕ)
listed separator word = cond (bytes_eq word (codes "-")) [] (parts_of separator word)

-- what words say, if each says something
abbrev pub all_said : {A : Type 0} → (List ℕ → Option A) → List (List ℕ) → Option (List A)
all_said says [] = Some []
all_said says (word ∷ words) = in_front (says word) (all_said says words)

-- no part has the separator in it
abbrev pub AllWithout : ℕ → List (List ℕ) → Type 0
AllWithout separator parts = AllByRecursion (AllByRecursion (λ b. b ≢ separator)) parts

-- the parts of a word have no separator in them, and joined by it they are the word
abbrev pub PartsJoin : Type 0
PartsJoin = (separator : ℕ) (word : List ℕ) → AllWithout separator (parts_of separator word) × (join_with_byte separator (parts_of separator word) ≡ word)

-- and one or more such parts are those of the word that they make
abbrev pub PartsBack : Type 0
PartsBack = (separator : ℕ) (part : List ℕ) (parts : List (List ℕ)) → AllWithout separator (part ∷ parts) → parts_of separator (join_with_byte separator (part ∷ parts)) ≡ part ∷ parts
