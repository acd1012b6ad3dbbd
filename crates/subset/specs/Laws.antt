-- What holds of subsets, in the words of indices.
use Rattle.std.specs.Prelude.{◌≡◌, ℕ, ◌+◌, ◌*◌, ◌<◌, ◌≤◌, true, ◌⊎◌, ◌↔◌, List, [], ◌∷◌, length, take, drop, slice_index}
use Rattle.form.specs.Shapes.{product}
use Rattle.stage.specs.Elements.{bytes}
use Rattle.subset.specs.Subsets.{inside, subset_of, put_subset}

-- an index of an array: a number below the length on each axis
abbrev pub Index : List ℕ → List ℕ → Type 0
Index [] [] = Unit
Index (n ∷ ns) (i ∷ is) = (i < n) × Index ns is
Index _ _ = ⊥

-- the array's index of the element that has the index js in the subset
abbrev pub shifted : List ℕ → List ℕ → List ℕ
shifted (s ∷ ss) (j ∷ js) = (s + j) ∷ shifted ss js
shifted _ _ = []

-- on some axis the index is before the subset or behind it
abbrev pub Outside : List ℕ → List ℕ → List ℕ → Type 0
Outside (s ∷ ss) (l ∷ ls) (i ∷ is) = (i < s) ⊎ ((s + l ≤ i) ⊎ Outside ss ls is)
Outside _ _ _ = ⊥

-- the byte at which the element with an index begins, in C order
abbrev pub place : List ℕ → ℕ → List ℕ → ℕ
place (n ∷ ns) size (i ∷ is) = i * (product ns * size) + place ns size is
place _ size _ = 0

-- the bytes of that element
abbrev pub element : List ℕ → ℕ → List ℕ → List ℕ → List ℕ
element shape size is x = take size (drop (place shape size is) x)

-- the test of a subset: a start and a length for each axis, and on none a sum past the array's length
abbrev pub Tested : Type 0
Tested = (array start shape : List ℕ)
    → (inside array start shape ≡ true)
    ↔ ((length start ≡ length array) × (length shape ≡ length array) × ((a : ℕ) → a < length array → slice_index start a + slice_index shape a ≤ slice_index array a))

-- of a subset in an array, where x are the array's bytes and d as many bytes as the subset has
pub record Laws (array start shape : List ℕ) (size : ℕ) : Type 0 where
  pub read_length : (x : List ℕ) → length x ≡ product array * size → length (subset_of array start shape size x) ≡ product shape * size
  pub write_length : (d x : List ℕ) → length d ≡ product shape * size → length x ≡ product array * size → length (put_subset array start shape size d x) ≡ length x
  -- what was written is read
  pub read_back : (d x : List ℕ) → length d ≡ product shape * size → length x ≡ product array * size
      → subset_of array start shape size (put_subset array start shape size d x) ≡ d
  -- element j of the subset is the array's element start + j
  pub read_element : (x js : List ℕ) → length x ≡ product array * size → Index shape js
      → element shape size js (subset_of array start shape size x) ≡ element array size (shifted start js) x
  pub written : (d x js : List ℕ) → length d ≡ product shape * size → length x ≡ product array * size → Index shape js
      → element array size (shifted start js) (put_subset array start shape size d x) ≡ element shape size js d
  -- each other element is as it was
  pub kept : (d x is : List ℕ) → length d ≡ product shape * size → length x ≡ product array * size → Index array is → Outside start shape is
      → element array size is (put_subset array start shape size d x) ≡ element array size is x
  -- and these are all
  pub either : (is : List ℕ) → Index array is → Outside start shape is ⊎ ((js : List ℕ) × Index shape js × (shifted start js ≡ is))

abbrev pub Lawful : Type 0
Lawful = (array start shape : List ℕ) (size : ℕ) → inside array start shape ≡ true → Laws array start shape size

-- worked figures, of elements of one byte and of two
pub record Figures : Type 0 where
  pub one_axis : subset_of (5 ∷ []) (1 ∷ []) (3 ∷ []) 1 (10 ∷ 11 ∷ 12 ∷ 13 ∷ 14 ∷ []) ≡ 11 ∷ 12 ∷ 13 ∷ []
  pub two_axes : subset_of (3 ∷ 4 ∷ []) (1 ∷ 1 ∷ []) (2 ∷ 3 ∷ []) 1 (0 ∷ 1 ∷ 2 ∷ 3 ∷ 10 ∷ 11 ∷ 12 ∷ 13 ∷ 20 ∷ 21 ∷ 22 ∷ 23 ∷ []) ≡ 11 ∷ 12 ∷ 13 ∷ 21 ∷ 22 ∷ 23 ∷ []
  pub three_axes : subset_of (2 ∷ 2 ∷ 3 ∷ []) (0 ∷ 1 ∷ 0 ∷ []) (2 ∷ 1 ∷ 2 ∷ []) 2 (bytes 2 (0 ∷ 1 ∷ 2 ∷ 10 ∷ 11 ∷ 12 ∷ 100 ∷ 101 ∷ 102 ∷ 110 ∷ 111 ∷ 112 ∷ []))
      ≡ bytes 2 (10 ∷ 11 ∷ 110 ∷ 111 ∷ [])
  pub four_axes : subset_of (2 ∷ 1 ∷ 2 ∷ 3 ∷ []) (1 ∷ 0 ∷ 0 ∷ 2 ∷ []) (1 ∷ 1 ∷ 2 ∷ 1 ∷ []) 1 (0 ∷ 1 ∷ 2 ∷ 10 ∷ 11 ∷ 12 ∷ 100 ∷ 101 ∷ 102 ∷ 110 ∷ 111 ∷ 112 ∷ []) ≡ 102 ∷ 112 ∷ []
  pub column : put_subset (2 ∷ 3 ∷ []) (0 ∷ 1 ∷ []) (2 ∷ 1 ∷ []) 2 (bytes 2 (7 ∷ 8 ∷ [])) (bytes 2 (1 ∷ 2 ∷ 3 ∷ 4 ∷ 5 ∷ 6 ∷ [])) ≡ bytes 2 (1 ∷ 7 ∷ 3 ∷ 4 ∷ 8 ∷ 6 ∷ [])
  pub rows : put_subset (3 ∷ 4 ∷ []) (1 ∷ 1 ∷ []) (2 ∷ 2 ∷ []) 1 (91 ∷ 92 ∷ 93 ∷ 94 ∷ []) (0 ∷ 1 ∷ 2 ∷ 3 ∷ 10 ∷ 11 ∷ 12 ∷ 13 ∷ 20 ∷ 21 ∷ 22 ∷ 23 ∷ [])
      ≡ 0 ∷ 1 ∷ 2 ∷ 3 ∷ 10 ∷ 91 ∷ 92 ∷ 13 ∷ 20 ∷ 93 ∷ 94 ∷ 23 ∷ []
  pub none_read : (x : List ℕ) → subset_of (3 ∷ 4 ∷ []) (3 ∷ 1 ∷ []) (0 ∷ 2 ∷ []) 1 x ≡ []
  pub none_written : put_subset (2 ∷ 2 ∷ []) (0 ∷ 1 ∷ []) (2 ∷ 0 ∷ []) 1 [] (1 ∷ 2 ∷ 3 ∷ 4 ∷ []) ≡ 1 ∷ 2 ∷ 3 ∷ 4 ∷ []
