-- Transposition, as Zarr v3 defines it: axis a of the encoded array is axis order a of the decoded one.
use Rattle.std.specs.Prelude.{◌≡◌, ℕ, ◌+◌, ◌*◌, ◌<◌, ◌≤◌, Bool, true, false, cond, ◌&&◌, List, length, map, None, Option, ◌==◌, nat_eq, nat_le, nat_lt, slice_index, refl}
use Rattle.std.specs.List.{list_all, list_any, range_with_len}
use Rattle.form.specs.declared.array_form.Form.{Form}
use Rattle.form.specs.Answers.{checked}
use Rattle.form.specs.Forms.{element_size}
use Rattle.form.specs.Shapes.{on, sound}
use Rattle.stage.specs.Arrays.{array_bytes}
use Rattle.stage.specs.Gathers.{gathered, by_element}
use Rattle.stage.specs.Single.{Coding, by_parts}
use Rattle.axes.specs.Axes.{offset, place, seat, Within, Onto}

-- the order is a permutation of the axes 0 to d - 1, and d is 1 to 4: its d entries are axes, and each axis is one of them
pub record Permutes (order : ℕ → ℕ) (d : ℕ) : Type 0 where
  pub some : 1 ≤ d
  pub few : d ≤ 4
  pub ranged : (k : ℕ) → k < d → order k < d
  pub met : Onto order d

-- the test of an order: each axis is among the entries, of which there are one to four
abbrev pub has_axes : List ℕ → Bool
has_axes order = list_all (λ axis. list_any (λ entry. nat_eq entry axis) order) (range_with_len 0 (length order))

abbrev pub is_order : List ℕ → Bool
is_order order = (nat_le 1 (length order) && nat_le (length order) 4) && has_axes order

-- entries that are no order are refused with 7
abbrev pub order_refusal : List ℕ → Option ℕ
order_refusal order = checked (is_order order) 7 None

-- the form f with other lengths, where that is a form
abbrev pub formed : (f : Form) (ls : List ℕ) (b : Bool) → sound ls f.dims (element_size f) ≡ b → Form
formed f ls true e = record { lengths = ls; dims = f.dims; data_type = f.data_type; fill = f.fill; ok = e }
formed f ls false e = f

abbrev pub with_lengths : Form → List ℕ → Form
with_lengths f ls = formed f ls (sound ls f.dims (element_size f)) refl

-- length a is the old length order a; a length that is not used is 1
abbrev pub new_length : List ℕ → Form → ℕ → ℕ
new_length order f a = cond (nat_lt a f.dims) (on f.lengths (on order a)) 1

abbrev pub new_lengths : List ℕ → Form → List ℕ
new_lengths order f = map (new_length order f) (range_with_len 0 4)

-- which element of the decoded array an element of the encoded is, and back
abbrev pub source : List ℕ → Form → ℕ → ℕ
source order f = seat (on f.lengths) (on (new_lengths order f)) (place (on order) f.dims) f.dims

abbrev pub target : List ℕ → Form → ℕ → ℕ
target order f = seat (on (new_lengths order f)) (on f.lengths) (on order) f.dims

abbrev pub transposing : List ℕ → ℕ → Coding Form Form
transposing order d = record {
  capability = by_parts;
  refusal = λ f. checked (d == f.dims) 9 None;
  coded = λ f. with_lengths f (new_lengths order f);
  encoded = λ f x. gathered (by_element (source order f) (element_size f)) (array_bytes f) x;
  decoded = λ f x. gathered (by_element (target order f) (element_size f)) (array_bytes f) x;
  test = λ f x. true;
}

-- the encoded array's length a is length order a, and its dimensions, type and fill value are the same
abbrev pub Turns : Type 0
Turns = (order : List ℕ) (d : ℕ) (f : Form)
    → Permutes (on order) d
    → d ≡ f.dims
    → ((a : ℕ) → a < d → on ((transposing order d).coded f).lengths a ≡ on f.lengths (on order a))
    × (((transposing order d).coded f).dims ≡ f.dims)
    × (((transposing order d).coded f).data_type ≡ f.data_type)
    × (((transposing order d).coded f).fill ≡ f.fill)

-- where an array of the form f has byte b of its element with the index i
abbrev pub byte_at : Form → (ℕ → ℕ) → ℕ → ℕ
byte_at f i b = offset (on f.lengths) i f.dims * element_size f + b

-- each byte of the element with the index i goes to the element whose index on axis a is i (order a)
abbrev pub Goes : Type 0
Goes = (order : List ℕ) (d : ℕ) (f : Form) (x : List ℕ) (i : ℕ → ℕ) (b : ℕ)
    → Permutes (on order) d
    → d ≡ f.dims
    → Within i (on f.lengths) d
    → b < element_size f
    → slice_index ((transposing order d).encoded f x) (byte_at ((transposing order d).coded f) (λ a. i (on order a)) b) ≡ slice_index x (byte_at f i b)

-- and comes from there, where any bytes are decoded
abbrev pub Comes : Type 0
Comes = (order : List ℕ) (d : ℕ) (f : Form) (y : List ℕ) (i : ℕ → ℕ) (b : ℕ)
    → Permutes (on order) d
    → d ≡ f.dims
    → Within i (on f.lengths) d
    → b < element_size f
    → slice_index ((transposing order d).decoded f y) (byte_at f i b) ≡ slice_index y (byte_at ((transposing order d).coded f) (λ a. i (on order a)) b)
