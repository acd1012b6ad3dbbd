-- The laws of the bytes codec, and what its bytes write.
use Rattle.std.specs.Prelude.{◌≡◌, ℕ, ◌*◌, Bool, true, false, cond, ◌⊎◌, List, length, Some, None, Option, nat_le, refl}
use Rattle.std.proofs.Common.{sym, ap, ◌∙◌, inl, inr}
use Rattle.form.specs.Forms.{element_size}
use Rattle.form.proofs.Sized.{form_facts}
use Rattle.stage.specs.Stage.{Bytes}
use Rattle.stage.specs.Single.{CodingLaws, single}
use Rattle.stage.specs.Arrays.{element_count, array_bytes, ArrayToBytesLaws}
use Rattle.stage.specs.Elements.{elements_by, elements}
use Rattle.bytes_codec.specs.declared.bytes_codec.Endianness.{Endianness}
use Rattle.bytes_codec.specs.declared.bytes_codec.Endianness.TheVariants.{Little, Big}
use Rattle.bytes_codec.specs.ByteOrder.{in_order, unordered, byte_ordering, number_in, Writes, Reads, Back}
use Rattle.bytes_codec.specs.Swapped.{length-swapped, swapped_back, Bytes-swapped, big-swapped}

length-in_order : (o : Option Endianness) (w n : ℕ) (x : List ℕ) → length x ≡ n * w → length (in_order o w n x) ≡ n * w
length-in_order None w n x l = l
length-in_order (Some Little) w n x l = l
length-in_order (Some Big) w n x l = length-swapped w n x l

Bytes-in_order : (o : Option Endianness) (w n : ℕ) (x : List ℕ) → length x ≡ n * w → Bytes x → Bytes (in_order o w n x)
Bytes-in_order None w n x l h = h
Bytes-in_order (Some Little) w n x l h = h
Bytes-in_order (Some Big) w n x l h = Bytes-swapped w n x l h

in_order_back : (o : Option Endianness) (w n : ℕ) (x : List ℕ) → length x ≡ n * w → in_order o w n (in_order o w n x) ≡ x
in_order_back None w n x l = refl
in_order_back (Some Little) w n x l = refl
in_order_back (Some Big) w n x l = swapped_back w n x l

in_order_writes : (o : Option Endianness) (w n : ℕ) (x : List ℕ) → length x ≡ n * w → elements_by (number_in o) w n (in_order o w n x) ≡ elements w n x
in_order_writes None w n x l = refl
in_order_writes (Some Little) w n x l = refl
in_order_writes (Some Big) w n x l = big-swapped w n x l

pub byte_ordering_laws : (o : Option Endianness) → CodingLaws array_bytes (λ n. n) (byte_ordering o)
byte_ordering_laws o = record {
  fits = λ f r. let k = (form_facts f).fits in (k, k);
  encoded_size = λ f x r l. length-in_order o (element_size f) (element_count f) x l;
  encoded_bytes = λ f x r l h. Bytes-in_order o (element_size f) (element_count f) x l h;
  decoded_size = λ f x r l. length-in_order o (element_size f) (element_count f) x l;
  decoded_bytes = λ f x r l h. Bytes-in_order o (element_size f) (element_count f) x l h;
  back = λ f x r l h. in_order_back o (element_size f) (element_count f) x l;
  passing = λ f x r l h. refl;
}

ten : (b : Bool) → (◌≡◌ {A = Option ℕ} (cond b None (Some 10)) None) ⊎ ((◌≡◌ {A = Option ℕ} (cond b None (Some 10)) (Some 9)) ⊎ (◌≡◌ {A = Option ℕ} (cond b None (Some 10)) (Some 10)))
ten true = inl refl
ten false = inr (inr refl)

refuses : (o : Option Endianness) (w : ℕ) → (unordered o w ≡ None) ⊎ ((unordered o w ≡ Some 9) ⊎ (unordered o w ≡ Some 10))
refuses None w = ten (nat_le w 1)
refuses (Some e) w = inl refl

pub byte_ordering_arrays : (o : Option Endianness) → ArrayToBytesLaws (single array_bytes (λ n. n) (byte_ordering o))
byte_ordering_arrays o = record { refuses = λ f. refuses o (element_size f); passes_all = λ f k x. refl }

pub back : Back
back o f x l = in_order_back o (element_size f) (element_count f) x l

pub writes : Writes
writes o f x l = in_order_writes o (element_size f) (element_count f) x l

pub reads : Reads
reads o f y l =
    let w = element_size f in
    let n = element_count f in
    sym (in_order_writes o w n (in_order o w n y) (length-in_order o w n y l)) ∙ ap (elements_by (number_in o) w n) (in_order_back o w n y l)
