-- The array and the bytes of a cell, in a work buffer.
use Rattle.std.proofs.Common.{◌≡◌, ℕ, zero, suc, ◌+◌, ◌*◌, ◌≤◌, List, ◌++◌, length, take, Some, None, Option, refl, sym, ap, subst, ◌∙◌, arith, option_map, add-mul, append-nil, append_assoc}
use Rattle.std.proofs.lemmas.Option.{none-some}
use Rattle.std.proofs.lemmas.Slice.{take-put_mid}
use Rattle.std.proofs.lemmas.List.{take_at}
use borrow.Rule.Slice.PartMut.{put_mid}
use Rattle.stage.specs.Stage.{Laws}
use Rattle.stage.specs.Arrays.{array_bytes}
use Rattle.stage.specs.declared.capability.PartialDecoderCapability.{PartialDecoderCapability}
use Rattle.codec_chain.specs.Place.{cache_index, Placed}
use Rattle.codec_chain.proofs.Place.{placed}
use Rattle.cells.specs.Cells.{Value, bytes_of}
use Rattle.chunks.specs.Views.{Coder, chained, array_of, kept_at, repeated}

-- one more element at the end
repeated_end : (n : ℕ) (x : List ℕ) → repeated n x ++ x ≡ repeated (suc n) x
repeated_end zero x = sym (append-nil x)
repeated_end (suc n) x = append_assoc x (repeated n x) x ∙ ap (λ y. x ++ y) (repeated_end n x)

-- so many elements at the front of a buffer
abbrev pub Filled : ℕ → List ℕ → List ℕ → Type 0
Filled n x w = take (n * length x) w ≡ repeated n x

pub filled_more : (n k : ℕ) (x w y : List ℕ) → Filled n x w → y ≡ x → n * length x ≤ length w → Filled (n + 1) x (put_mid (n * length x) k w y)
filled_more n k x w y f e h =
    let s : n + 1 ≡ suc n = omega arith in
    let l : (n + 1) * length x ≡ n * length x + length y = add-mul n 1 (length x) ∙ (let m : n * length x + 1 * length x ≡ n * length x + length x = omega arith in m) ∙ ap (λ z. n * length x + length z) (sym e) in
    take-put_mid (n * length x) k w y ((n + 1) * length x) l h ∙ rw (f, e) (repeated_end n x) ∙ ap (λ m. repeated m x) (sym s)

pub filled_none : (x w : List ℕ) → Filled 0 x w
filled_none x w = let z : 0 * length x ≡ 0 = omega arith in ap (λ m. take m w) z

pub filled_all : (n m size bytes : ℕ) (x y w : List ℕ) → Filled n x w → n ≡ m → x ≡ y → length x ≡ size → bytes ≡ m * size → take bytes w ≡ repeated m y
filled_all n m size bytes x y w f e q l b = ap (λ k. take k w) (b ∙ rw (sym e, sym l) refl) ∙ f ∙ rw (e, q) refl

-- a cell's value fits a buffer that any encoding fits
pub cell_fits : (value : Value) (n m : ℕ) → ((encoded : List ℕ) → value ≡ Some encoded → length encoded ≡ n) → n ≤ 4096 → 4096 ≤ m → length (bytes_of value) ≤ m
cell_fits None n m h f k = omega arith
cell_fits (Some encoded) n m h f k = omega (arith, h encoded refl)

-- the cache place is one of the places
pub place_there : (singles : List PartialDecoderCapability) (place : Option ℕ) (k : ℕ) → place ≡ cache_index singles → place ≡ Some k → k ≤ length singles
place_there singles place k e s = (subst (Placed singles) (sym e ∙ s) (placed singles)).there

-- where what is kept lies on the way, it is as good as the cell
module _ (c : Coder) (l : Laws array_bytes (λ n. n) (chained c)) (r : (chained c).refusal c.form ≡ None) where
  abbrev undone : ℕ → ℕ → List ℕ → List ℕ
  undone i j x = (chained c).undone c.form i j x

  abbrev size : ℕ → ℕ
  size k = (chained c).size c.form k

  pub kept_on : (value : Value) (i j : ℕ) (items rest w bytes : List ℕ) → ((encoded : List ℕ) → value ≡ Some encoded → length encoded ≡ size 0) → Some (Some items) ≡ kept_at c (Some i) value
      → i ≤ j → j ≤ length (chained c).singles → w ≡ items ++ rest → bytes ≡ undone i j (take (size i) w) → option_map (undone 0 j) value ≡ Some bytes
  kept_on None i j items rest w bytes h k p q s b = absurd (let z : Some (Some items) ≡ Some None = k in none-some items (let y : None ≡ Some items = cc in y))
  kept_on (Some encoded) i j items rest w bytes h k p q s b =
      let le = h encoded refl in
      let is : items ≡ undone 0 i encoded = cc in
      let n : length items ≡ size i = ap length is ∙ l.undone_size c.form 0 i encoded r (omega arith) (omega arith) le in
      let t : take (size i) w ≡ undone 0 i encoded = ap (take (size i)) s ∙ take_at items rest (size i) n ∙ is in
      ap Some (sym (b ∙ ap (undone i j) t ∙ l.undone_on c.form 0 i j encoded r (omega arith) p q le))

  -- undone to the last place it is the array
  pub array_loaded : (value : Value) (n place m : ℕ) (w : List ℕ) → option_map (undone 0 place) value ≡ Some (take n w) → n ≡ size place → place ≡ length (chained c).singles → m ≡ array_bytes c.form → take m w ≡ array_of c value
  array_loaded None n place m w h e p q = absurd (none-some (take n w) h)
  array_loaded (Some encoded) n place m w h e p q =
      let t : undone 0 place encoded ≡ take n w = cc in
      ap (λ k. take k w) (q ∙ sym (l.last c.form r) ∙ ap size (sym p) ∙ sym e) ∙ sym t ∙ ap (λ k. undone 0 k encoded) p
