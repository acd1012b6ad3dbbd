-- Bytes of a list's parts, and the lengths that are taken.
use Rattle.std.proofs.Common.{◌≡◌, ℕ, ◌+◌, ◌-◌, ◌<◌, ◌≤◌, Bool, true, false, cond, leb, List, ◌++◌, length, get_or, take, drop, Some, None, Option, refl, ⊎_elim, arith}
use Rattle.std.proofs.lemmas.Bool.{leb-true, cases_lt}
use Rattle.std.proofs.lemmas.List.{get_or_append_left, get_or-append_right, length-take-le, length-drop, get_or-take, get_or-drop, get_or_past}
use Rattle.stage.specs.Stage.{Bytes, too_long}

-- where a test refuses nothing, it came out true, and what stands behind it refuses nothing
pub taken : (b : Bool) (o : Option ℕ) (n : ℕ) → cond b o (Some n) ≡ None → (b ≡ true) × (o ≡ None)
taken true o n e = (refl, e)
taken false o n e = let z : ◌≡◌ {A = ℕ} 0 1 = cc in absurd (omega arith)

pub not_too_long : (n : ℕ) → too_long n ≡ None → n ≤ 4096
not_too_long n e = leb-true n 4096 (taken (leb n 4096) None 12 e).0

-- past its end a list reads as 0, which is a byte too
pub byte_anywhere : (x : List ℕ) → Bytes x → (k : ℕ) → get_or x k 0 < 256
byte_anywhere x h k =
    ⊎_elim (λ (u : k < length x). h k u) (λ (u : length x ≤ k). rw (get_or_past x k 0 u) (omega arith)) (cases_lt k (length x))

pub Bytes-append : (x y : List ℕ) → Bytes x → Bytes y → Bytes (x ++ y)
Bytes-append x y hx hy k h =
    ⊎_elim
    (λ (u : k < length x). rw (get_or_append_left x y 0 k u) (hx k u))
    (λ (u : length x ≤ k). rw (get_or-append_right x y (length x) k 0 refl u) (byte_anywhere y hy (k - length x)))
    (cases_lt k (length x))

pub Bytes-take : (n : ℕ) (x : List ℕ) → n ≤ length x → Bytes x → Bytes (take n x)
Bytes-take n x h hx k u =
    let l = length-take-le n x h in
    let v : k < n = omega arith in
    rw (get_or-take n x k 0 v) (hx k (omega arith))

pub Bytes-drop : (n : ℕ) (x : List ℕ) → n ≤ length x → Bytes x → Bytes (drop n x)
Bytes-drop n x h hx k u =
    let l = length-drop n x in
    rw (get_or-drop n x k 0) (hx (n + k) (omega arith))
