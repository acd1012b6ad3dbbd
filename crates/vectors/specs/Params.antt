-- What the parameters of a vector say.
use Rattle.std.specs.Prelude.{ℕ, cond, List, [], ◌∷◌, map, Option, Some, None, codes, vec_items}
use Rattle.std.specs.Option.{option_map, option_and_then, option_or}
use Rattle.std.specs.Str.{bytes_eq}
use Rattle.text.specs.List.{parts_of, listed, all_said}
use Rattle.text.specs.Number.{number_of}
use Rattle.text.specs.Words.{behind}
use Rattle.stage_names.specs.Names.{SaidStage, said_stage, stages_of}
use Rattle.vectors.specs.declared.params.Params.{Params}
use Rattle.vectors.specs.declared.params.Params.TheVariants.{Nothing, ElementSize, DataType, Axes, Stages}

abbrev pub number_behind : List ℕ → List ℕ → Option ℕ
number_behind front pair = option_and_then number_of (behind front pair)

-- numbers that a separator joins, or `-` for none
abbrev pub numbers_behind : List ℕ → ℕ → List ℕ → Option (List ℕ)
numbers_behind front separator pair = option_and_then (λ list. all_said number_of (listed separator list)) (behind front pair)

-- `stages=` and stages
abbrev pub stages_behind : List ℕ → Option (List SaidStage)
stages_behind pair = option_and_then stages_of (behind (codes "stages=") pair)

-- what parameters say
pub data Said : Type 0 where
  SaidNothing : Said
  SaidSize : (size : ℕ) → Said
  SaidType : (code : ℕ) → Said
  SaidAxes : (code : ℕ) (shape order : List ℕ) → Said
  SaidStages : (code : ℕ) (shape : List ℕ) (stages : List SaidStage) → Said

abbrev pub said : Params → Said
said Nothing = SaidNothing
said (ElementSize size) = SaidSize size
said (DataType code) = SaidType code
said (Axes code shape order) = SaidAxes code (vec_items shape) (vec_items order)
said (Stages code shape stages) = SaidStages code (vec_items shape) (map said_stage (vec_items stages))

-- nothing of `-`, the size of `e=` and a number, and the type of `type=` and a number
abbrev pub one_of : List ℕ → Option Said
one_of pair =
    cond (bytes_eq pair (codes "-")) (Some SaidNothing)
    (option_or (option_map SaidSize (number_behind (codes "e=") pair)) (option_map SaidType (number_behind (codes "type=") pair)))

-- of an array: `order=` and numbers that commas join, or `stages=` and stages
abbrev pub coding_of : List ℕ → ℕ → List ℕ → Option Said
coding_of pair code shape =
    option_or (option_map (SaidAxes code shape) (numbers_behind (codes "order=") 44 pair)) (option_map (SaidStages code shape) (stages_behind pair))

-- `type=` and a number, `shape=` and numbers that x joins, and how the array is coded
abbrev pub array_of : List ℕ → List ℕ → List ℕ → Option Said
array_of code shape coding =
    option_and_then (λ c. option_and_then (coding_of coding c) (numbers_behind (codes "shape=") 120 shape)) (number_behind (codes "type=") code)

-- one pair says what it says alone, three say an array and how it is coded, and no other number of them says anything
abbrev pub pairs_say : List (List ℕ) → Option Said
pairs_say [] = None
pairs_say (pair ∷ []) = one_of pair
pairs_say (code ∷ (shape ∷ [])) = None
pairs_say (code ∷ (shape ∷ (coding ∷ []))) = array_of code shape coding
pairs_say (code ∷ (shape ∷ (coding ∷ (more ∷ rest)))) = None

-- what semicolons join
abbrev pub params_of : List ℕ → Option Said
params_of word = pairs_say (parts_of 59 word)
