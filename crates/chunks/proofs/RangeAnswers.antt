-- A range of the bytes of a cell, from a work buffer.
use Rattle.std.proofs.Common.{◌≡◌, ℕ, ◌+◌, ◌-◌, ◌≤◌, List, length, take, drop, Some, None, Ok, Option, Result, IfSome, refl, sym, ap, ◌∙◌, arith, length-append, option_map}
use Rattle.std.proofs.lemmas.Bool.{le-leb}
use Rattle.std.proofs.lemmas.Option.{none-some}
use Rattle.std.proofs.lemmas.List.{length-drop, length-take-le, drop-take, take-take}
use Rattle.form.specs.Refusals.{Refusal, only_if}
use Rattle.stage.specs.Stage.{Laws}
use Rattle.stage.specs.Arrays.{array_bytes}
use Rattle.pair.specs.Compose.{after}
use Rattle.cells.specs.Cells.{Value, bytes_of, marked, part}
use Rattle.chunks.specs.declared.byte_range.ByteRange.{ByteRange}
use Rattle.chunks.specs.Ranges.{in_range, range_start, range_length, range_of}
use Rattle.chunks.specs.Views.{Coder, chained, plain}
use Rattle.chunks.proofs.ReadAnswers.{passed}

-- a value whose bytes were counted is not absent
pub present : (value : Value) (n : ℕ) → option_map length value ≡ Some n → (encoded : List ℕ) × (value ≡ Some encoded)
present None n h = absurd (none-some n h)
present (Some encoded) n h = (encoded, refl)

-- a part that lies among the first bytes
part_front : (start count n : ℕ) (w : List ℕ) → start + count ≤ n → part start count (take n w) ≡ part start count w
part_front start count n w h =
    let e : n ≡ start + (n - start) = omega arith in
    ap (λ m. take count (drop start (take m w))) e ∙ ap (take count) (drop-take start (n - start) w) ∙ take-take count (n - start) (drop start w) (omega arith)

module _ (c : Coder) (l : Laws array_bytes (λ n. n) (chained c)) (r : (chained c).refusal c.form ≡ None)
    (value : Value) (whole : (encoded : List ℕ) → value ≡ Some encoded → length encoded ≡ (chained c).size c.form 0)
    (range : ByteRange) (place size start count : ℕ) (w : List ℕ)
    (placed : place ≡ length c.bytes.singles) (sized : size ≡ (chained c).size c.form place)
    (told : ◌≡◌ {A = Result (ℕ × ℕ) Refusal} (Ok (start, count)) (only_if (in_range size range) 18 (Ok (range_start size range, range_length size range))))
    (fits : start + count ≤ size) where
  bytes_undone : (encoded : List ℕ) → plain c encoded ≡ (chained c).undone c.form 0 place encoded
  bytes_undone encoded =
      let t = le-leb (length c.bytes.singles) (length c.bytes.singles) (omega arith) in
      rw (placed, t) refl

  there : place ≤ length (chained c).singles
  there = omega (arith, placed, length-append c.bytes.singles (after c.to_bytes c.arrays).singles)

  start_is : start ≡ range_start size range
  start_is = ap (λ z. z.0) (passed _ 18 (start, count) _ told).1

  count_is : count ≡ range_length size range
  count_is = ap (λ z. z.1) (passed _ 18 (start, count) _ told).1

  -- the bytes of the range, of so many
  in_bytes : (x : List ℕ) → length x ≡ size → range_of range x ≡ part start count x
  in_bytes x e = ap (λ n. part (range_start n range) (range_length n range) x) e ∙ rw (sym start_is, sym count_is) refl

  all_there : (encoded : List ℕ) → value ≡ Some encoded → length (plain c encoded) ≡ size
  all_there encoded v = ap length (bytes_undone encoded) ∙ l.undone_size c.form 0 place encoded r (omega arith) there (whole encoded v) ∙ sym sized

  pub range_counted : (encoded : List ℕ) → value ≡ Some encoded → length (range_of range (plain c (bytes_of value))) ≡ count
  range_counted encoded v =
      let e = all_there encoded v in
      ap (λ y. length (range_of range (plain c (bytes_of y)))) v ∙ ap length (in_bytes _ e)
      ∙ length-take-le count (drop start (plain c encoded)) (omega (arith, length-drop start (plain c encoded)))

  pub range_copied : (encoded : List ℕ) → value ≡ Some encoded → (m : Option ℕ) → option_map ((chained c).undone c.form 0 place) value ≡ marked m w
      → IfSome m (λ n. n ≡ (chained c).size c.form place) → part start count w ≡ range_of range (plain c (bytes_of value))
  range_copied encoded v None u i = absurd (none-some _ (sym u ∙ ap (option_map ((chained c).undone c.form 0 place)) v))
  range_copied encoded v (Some n) u i =
      let t : (chained c).undone c.form 0 place encoded ≡ take n w = let z : Some ((chained c).undone c.form 0 place encoded) ≡ Some (take n w) = ap (option_map ((chained c).undone c.form 0 place)) (sym v) ∙ u in cc in
      let e = all_there encoded v in
      let f : start + count ≤ n = omega (arith, sized, i) in
      sym (part_front start count n w f) ∙ ap (part start count) (sym t ∙ sym (bytes_undone encoded)) ∙ sym (in_bytes _ e) ∙ ap (λ y. range_of range (plain c (bytes_of y))) (sym v)
