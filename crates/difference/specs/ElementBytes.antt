-- Elements and their bytes.
use Rattle.std.specs.Prelude.{◌≡◌, ℕ, zero, suc, ◌+◌, ◌*◌, ◌/◌, ◌%◌, ◌^◌, ◌<◌, ◌≤◌, List, [], ◌∷◌, length, take, drop, refl}
use Rattle.std.specs.List.{AllByRecursion}
use Rattle.std.proofs.Common.{sym, ap, subst, ◌∙◌, suc-mul, arith}
use Rattle.std.proofs.Math.Nat.{pow-succ'}
use Rattle.std.proofs.lemmas.List.{length-append, length-take-le, length-drop, take_at, drop_at, take-append-drop, nil_from_length}
use Rattle.stage.specs.Stage.{Bytes}
use Rattle.stage.specs.Elements.{little, digits, elements, bytes}
use Rattle.stage.proofs.Bytewise.{Bytes-append, Bytes-take, Bytes-drop}

-- each is below m
abbrev pub Below : ℕ → List ℕ → Type 0
Below m = AllByRecursion (λ v. v < m)

Bytes_tail : (d : ℕ) (ds : List ℕ) → Bytes (d ∷ ds) → Bytes ds
Bytes_tail d ds h k u = h (suc k) (omega arith)

-- one more byte on the low side
little_fits : (v d m : ℕ) → v < 256 ^ m → d < 256 → d + 256 * v < 256 ^ suc m
little_fits v d m h k = let e = pow-succ' 256 m in omega arith

little_lt : (x : List ℕ) → Bytes x → little x < 256 ^ length x
little_lt [] h = omega arith
little_lt (d ∷ ds) h = little_fits (little ds) d (length ds) (little_lt ds (Bytes_tail d ds h)) (h 0 (omega arith))

pub length_digits : (w v : ℕ) → length (digits w v) ≡ w
length_digits zero v = refl
length_digits (suc w) v = ap suc (length_digits w (v / 256))

Bytes-digits : (w v : ℕ) → Bytes (digits w v)
Bytes-digits zero v k h = omega arith
Bytes-digits (suc w) v zero h = omega arith
Bytes-digits (suc w) v (suc k) h = Bytes-digits w (v / 256) k (omega arith)

little-digits : (w v : ℕ) → v < 256 ^ w → little (digits w v) ≡ v
little-digits zero v h = omega arith
little-digits (suc w) v h =
    let e = pow-succ' 256 w in
    let i = little-digits w (v / 256) (omega arith) in
    omega arith

pub digits-little : (x : List ℕ) → Bytes x → digits (length x) (little x) ≡ x
digits-little [] h = refl
digits-little (d ∷ ds) h =
    let b : d < 256 = h 0 (omega arith) in
    let m : (d + 256 * little ds) % 256 ≡ d = omega arith in
    let q : (d + 256 * little ds) / 256 ≡ little ds = omega arith in
    rw (m, q, digits-little ds (Bytes_tail d ds h))

pub length-elements : (w n : ℕ) (x : List ℕ) → length (elements w n x) ≡ n
length-elements w zero x = refl
length-elements w (suc n) x = ap suc (length-elements w n (drop w x))

pub length-bytes : (w : ℕ) (vs : List ℕ) → length (bytes w vs) ≡ length vs * w
length-bytes w [] = omega arith
length-bytes w (v ∷ vs) =
    let e = suc-mul (length vs) w in
    let d = length_digits w v in
    let i = length-bytes w vs in
    length-append (digits w v) (bytes w vs) ∙ omega arith

pub Bytes-bytes : (w : ℕ) (vs : List ℕ) → Bytes (bytes w vs)
Bytes-bytes w [] k h = omega arith
Bytes-bytes w (v ∷ vs) k h = Bytes-append (digits w v) (bytes w vs) (Bytes-digits w v) (Bytes-bytes w vs) k h

pub elements-bytes : (w : ℕ) (vs : List ℕ) → Below (256 ^ w) vs → elements w (length vs) (bytes w vs) ≡ vs
elements-bytes w [] h = refl
elements-bytes w (v ∷ vs) h =
    let l = length_digits w v in
    rw (take_at (digits w v) (bytes w vs) w l, drop_at (digits w v) (bytes w vs) w l, little-digits w v h.0, elements-bytes w vs h.1)

pub elements_below : (w n : ℕ) (x : List ℕ) → n * w ≤ length x → Bytes x → Below (256 ^ w) (elements w n x)
elements_below w zero x h b = tt
elements_below w (suc n) x h b =
    let e = suc-mul n w in
    let u : w ≤ length x = omega arith in
    let l = length-drop w x in
    (subst (λ k. little (take w x) < 256 ^ k) (length-take-le w x u) (little_lt (take w x) (Bytes-take w x u b)), elements_below w n (drop w x) (omega arith) (Bytes-drop w x u b))

pub bytes_elements : (w n : ℕ) (x : List ℕ) → length x ≡ n * w → Bytes x → bytes w (elements w n x) ≡ x
bytes_elements w zero x h b = sym (nil_from_length x (omega arith))
bytes_elements w (suc n) x h b =
    let e = suc-mul n w in
    let u : w ≤ length x = omega arith in
    let l = length-drop w x in
    let d : digits w (little (take w x)) ≡ take w x = subst (λ k. digits k (little (take w x)) ≡ take w x) (length-take-le w x u) (digits-little (take w x) (Bytes-take w x u b)) in
    rw (d, bytes_elements w n (drop w x) (omega arith) (Bytes-drop w x u b), take-append-drop w x)
