-- The difference codec: the first element stays, and each later one becomes itself less the one before it.
use Rattle.std.specs.Prelude.{◌≡◌, ℕ, ◌+◌, ◌<◌, true, List, [], ◌∷◌, length, None, slice_index}
use Rattle.form.specs.declared.array_form.Form.{Form}
use Rattle.form.specs.declared.data_type.DataType.{DataType}
use Rattle.form.specs.declared.data_type.DataType.TheVariants.{Float32, Float64}
use Rattle.form.specs.Types.{size_of}
use Rattle.form.specs.Forms.{element_size}
use Rattle.stage.specs.Stage.{Bytes}
use Rattle.stage.specs.Single.{Coding, whole_only}
use Rattle.stage.specs.Arrays.{element_count, array_bytes}
use Rattle.stage.specs.Elements.{elements, bytes}
use Rattle.groups.specs.Groups.{Operations, modular, exclusive}

-- integers by their sums modulo 2 ^ (8 * size), floats by the exclusive or of their bits
abbrev pub group_kind : DataType → ℕ → Operations
group_kind Float32 = exclusive
group_kind Float64 = exclusive
group_kind t = modular

abbrev pub group_of : DataType → Operations
group_of t = group_kind t (size_of t)

-- the first element stays, and F says what becomes of those after it
abbrev pub first_stays : (ℕ → List ℕ → List ℕ) → List ℕ → List ℕ
first_stays F [] = []
first_stays F (v ∷ vs) = v ∷ F v vs

-- the bytes of n elements of w bytes each, where `code` says what becomes of the elements
abbrev pub on_elements : (List ℕ → List ℕ) → ℕ → ℕ → List ℕ → List ℕ
on_elements code w n x = bytes w (code (elements w n x))

module _ (o : Operations) where
  -- each element less the one before it, where p stands before the first
  abbrev pub lessened : ℕ → List ℕ → List ℕ
  lessened p [] = []
  lessened p (v ∷ vs) = o.less v p ∷ lessened v vs

  -- the first element stays
  abbrev pub differences : List ℕ → List ℕ
  differences = first_stays lessened

  -- each difference plus the sum before it, where p is the sum before the first
  abbrev pub summed : ℕ → List ℕ → List ℕ
  summed p [] = []
  summed p (d ∷ ds) = o.plus d p ∷ summed (o.plus d p) ds

  -- the running sums
  abbrev pub sums : List ℕ → List ℕ
  sums = first_stays summed

abbrev pub differencing : Coding Form Form
differencing = record {
  capability = whole_only;
  refusal = λ f. None;
  coded = λ f. f;
  encoded = λ f x. let o = group_of f.data_type in on_elements (differences o) o.width (element_count f) x;
  decoded = λ f x. let o = group_of f.data_type in on_elements (sums o) o.width (element_count f) x;
  test = λ f x. true;
}

-- element k of an array, as a number
abbrev pub element : Form → List ℕ → ℕ → ℕ
element f x k = slice_index (elements (element_size f) (element_count f) x) k

-- element 0 of the encoded is that of the array, and each later one is the array's less the one before it
pub record Different (f : Form) (x y : List ℕ) : Type 0 where
  pub first : element f y 0 ≡ element f x 0
  pub later : (k : ℕ) → k + 1 < element_count f → element f y (k + 1) ≡ (group_of f.data_type).less (element f x (k + 1)) (element f x k)

abbrev pub Differs : Type 0
Differs = (f : Form) (x : List ℕ) → length x ≡ array_bytes f → Bytes x → Different f x (differencing.encoded f x)

-- element 0 of the decoded is that of the encoded, and each later one is the encoded's plus the decoded one before it
pub record Summed (f : Form) (y x : List ℕ) : Type 0 where
  pub first : element f x 0 ≡ element f y 0
  pub later : (k : ℕ) → k + 1 < element_count f → element f x (k + 1) ≡ (group_of f.data_type).plus (element f y (k + 1)) (element f x k)

abbrev pub Adds : Type 0
Adds = (f : Form) (y : List ℕ) → length y ≡ array_bytes f → Bytes y → Summed f y (differencing.decoded f y)

-- encoding what was decoded gives the bytes back
abbrev pub Recodes : Type 0
Recodes = (f : Form) (y : List ℕ) → length y ≡ array_bytes f → Bytes y → differencing.encoded f (differencing.decoded f y) ≡ y
