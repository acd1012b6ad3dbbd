-- Elements with their bytes in reverse: their length, their bytes, and what they write.
use Rattle.std.specs.Prelude.{◌≡◌, ℕ, zero, suc, ◌+◌, ◌*◌, ◌≤◌, List, [], ◌∷◌, ◌++◌, length, take, drop, reverse, refl}
use Rattle.std.proofs.Common.{sym, ap, ◌∙◌, suc-mul, arith}
use Rattle.std.proofs.lemmas.List.{length-append, length-take-le, length-drop, length-reverse, reverse-reverse, reverse-append, get_or-reverse, take_at, drop_at, take-append-drop, nil_from_length}
use Rattle.stage.specs.Stage.{Bytes}
use Rattle.stage.specs.Elements.{little, big, big_after, elements_by, elements}
use Rattle.stage.proofs.Bytewise.{Bytes-append, Bytes-take, Bytes-drop}
use Rattle.bytes_codec.specs.ByteOrder.{swapped}

-- one element in front of n others
record Front (w n : ℕ) (x : List ℕ) : Type 0 where
  pub first : length (reverse (take w x)) ≡ w
  pub fits : w ≤ length x
  pub rest : length (drop w x) ≡ n * w

front : (w n : ℕ) (x : List ℕ) → length x ≡ suc n * w → Front w n x
front w n x l =
    let e = suc-mul n w in
    let u : w ≤ length x = omega arith in
    record {
      first = length-reverse (take w x) ∙ length-take-le w x u;
      fits = u;
      rest = omega (arith, length-drop w x);
    }

pub length-swapped : (w n : ℕ) (x : List ℕ) → length x ≡ n * w → length (swapped w n x) ≡ n * w
length-swapped w zero x l = omega arith
length-swapped w (suc n) x l =
    let f = front w n x l in
    let i = length-swapped w n (drop w x) f.rest in
    let a = length-append (reverse (take w x)) (swapped w n (drop w x)) in
    let b = f.first in
    let e = suc-mul n w in
    omega arith

pub swapped_back : (w n : ℕ) (x : List ℕ) → length x ≡ n * w → swapped w n (swapped w n x) ≡ x
swapped_back w zero x l = sym (nil_from_length x (omega arith))
swapped_back w (suc n) x l =
    let f = front w n x l in
    rw (
      take_at (reverse (take w x)) (swapped w n (drop w x)) w f.first,
      drop_at (reverse (take w x)) (swapped w n (drop w x)) w f.first,
      reverse-reverse (take w x),
      swapped_back w n (drop w x) f.rest,
      take-append-drop w x,
    )

Bytes-reverse : (x : List ℕ) → Bytes x → Bytes (reverse x)
Bytes-reverse x h k u =
    let l = length-reverse x in
    rw (get_or-reverse x k 0 (omega arith)) (h _ (omega arith))

pub Bytes-swapped : (w n : ℕ) (x : List ℕ) → length x ≡ n * w → Bytes x → Bytes (swapped w n x)
Bytes-swapped w zero x l h = λ k u. omega arith
Bytes-swapped w (suc n) x l h =
    let f = front w n x l in
    Bytes-append (reverse (take w x)) (swapped w n (drop w x)) (Bytes-reverse (take w x) (Bytes-take w x f.fits h)) (Bytes-swapped w n (drop w x) f.rest (Bytes-drop w x f.fits h))

big_after-append : (v : ℕ) (xs : List ℕ) (d : ℕ) → big_after v (xs ++ (d ∷ [])) ≡ big_after v xs * 256 + d
big_after-append v [] d = refl
big_after-append v (x ∷ xs) d = big_after-append (v * 256 + x) xs d

-- the bytes in reverse write the same number, most significant byte first
big-reverse : (x : List ℕ) → big (reverse x) ≡ little x
big-reverse [] = refl
big-reverse (d ∷ ds) =
    let r : reverse (d ∷ ds) ≡ reverse ds ++ (d ∷ []) = reverse-append (d ∷ []) ds in
    let i = big-reverse ds in
    let a = big_after-append 0 (reverse ds) d in
    ap big r ∙ omega arith

-- and so each element
pub big-swapped : (w n : ℕ) (x : List ℕ) → length x ≡ n * w → elements_by big w n (swapped w n x) ≡ elements w n x
big-swapped w zero x l = refl
big-swapped w (suc n) x l =
    let f = front w n x l in
    rw (
      take_at (reverse (take w x)) (swapped w n (drop w x)) w f.first,
      drop_at (reverse (take w x)) (swapped w n (drop w x)) w f.first,
      big-reverse (take w x),
      big-swapped w n (drop w x) f.rest,
    )
