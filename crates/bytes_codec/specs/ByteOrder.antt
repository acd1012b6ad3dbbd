-- The bytes codec of Zarr v3: the elements in C order, each as the bytes of its number in the byte order.
use Rattle.std.specs.Prelude.{◌≡◌, ℕ, true, List, length, reverse, Some, None, Option, nat_le}
use Rattle.std.specs.List.{flat_map}
use Rattle.form.specs.declared.array_form.Form.{Form}
use Rattle.form.specs.Answers.{checked}
use Rattle.form.specs.Forms.{element_size}
use Rattle.stage.specs.Single.{Coding, by_parts}
use Rattle.stage.specs.Arrays.{element_count, array_bytes}
use Rattle.stage.specs.Elements.{little, big, pieces, elements_by, elements}
use Rattle.bytes_codec.specs.declared.bytes_codec.Endianness.{Endianness}
use Rattle.bytes_codec.specs.declared.bytes_codec.Endianness.TheVariants.{Little, Big}

-- n elements of w bytes, the bytes of each in reverse
abbrev pub swapped : ℕ → ℕ → List ℕ → List ℕ
swapped w n x = flat_map reverse (pieces w n x)

-- an array has the least byte of an element first, so big reverses, and nothing else changes
abbrev pub in_order : Option Endianness → ℕ → ℕ → List ℕ → List ℕ
in_order None w n x = x
in_order (Some Little) w n x = x
in_order (Some Big) w n x = swapped w n x

-- elements of more than one byte without a byte order are refused with 10
abbrev pub unordered : Option Endianness → ℕ → Option ℕ
unordered None w = checked (nat_le w 1) 10 None
unordered (Some e) w = None

abbrev pub byte_ordering : Option Endianness → Coding Form ℕ
byte_ordering endian = record {
  capability = by_parts;
  refusal = λ f. unordered endian (element_size f);
  coded = array_bytes;
  encoded = λ f x. in_order endian (element_size f) (element_count f) x;
  decoded = λ f x. in_order endian (element_size f) (element_count f) x;
  test = λ f x. true;
}

-- the number that an element's bytes write in the byte order
abbrev pub number_in : Option Endianness → List ℕ → ℕ
number_in None = little
number_in (Some Little) = little
number_in (Some Big) = big

-- the elements that the encoded writes in the byte order are those of the array
abbrev pub Writes : Type 0
Writes = (endian : Option Endianness) (f : Form) (x : List ℕ)
    → length x ≡ array_bytes f
    → elements_by (number_in endian) (element_size f) (element_count f) ((byte_ordering endian).encoded f x) ≡ elements (element_size f) (element_count f) x

-- the elements of the decoded are those that the bytes write in the byte order
abbrev pub Reads : Type 0
Reads = (endian : Option Endianness) (f : Form) (y : List ℕ)
    → length y ≡ array_bytes f
    → elements (element_size f) (element_count f) ((byte_ordering endian).decoded f y) ≡ elements_by (number_in endian) (element_size f) (element_count f) y

-- decoding what was encoded gives it back
abbrev pub Back : Type 0
Back = (endian : Option Endianness) (f : Form) (x : List ℕ)
    → length x ≡ array_bytes f
    → (byte_ordering endian).decoded f ((byte_ordering endian).encoded f x) ≡ x
