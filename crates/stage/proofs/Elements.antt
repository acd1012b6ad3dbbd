-- What a loop that writes the elements of an array one by one keeps.
use Rattle.std.proofs.Common.{◌≡◌, ℕ, zero, suc, ◌+◌, ◌-◌, ◌*◌, ◌<◌, ◌≤◌, List, ◌∷◌, ◌++◌, length, take, drop, sym, ap, ◌∙◌, append_assoc, suc-mul, add-one, arith}
use Rattle.std.proofs.lemmas.Nat.{mul-le}
use Rattle.std.proofs.lemmas.Slice.{take-put_mid, drop-put_mid}
use Rattle.std.proofs.lemmas.List.{drop-drop, length-drop, length-take-le}
use borrow.Rule.Slice.PartMut.{put_mid}
use Rattle.stage.specs.Elements.{pieces}

pub next_is : (e w : ℕ) → (e + 1) * w ≡ e * w + w
next_is e w = ap (λ k. k * w) (add-one e) ∙ suc-mul e w

pub width_is : (e w : ℕ) → (e + 1) * w - e * w ≡ w
width_is e w = omega (arith, next_is e w)

-- after zs was written over element e of x, whose elements have w bytes
pub record Written (e w : ℕ) (x zs : List ℕ) : Type 0 where
  pub front : take ((e + 1) * w) (put_mid (e * w) ((e + 1) * w - e * w) x zs) ≡ take (e * w) x ++ zs
  pub behind : drop ((e + 1) * w) (put_mid (e * w) ((e + 1) * w - e * w) x zs) ≡ drop ((e + 1) * w) x

-- one of n elements ends inside the array
pub element_inside : (e w n : ℕ) (x : List ℕ) → e < n → n * w ≤ length x → e * w + w ≤ length x
element_inside e w n x h l = omega (arith, next_is e w, mul-le (e + 1) w n w (omega arith) (omega arith))

pub element_written : (e w n : ℕ) (x zs : List ℕ) → e < n → n * w ≤ length x → length zs ≡ w → Written e w x zs
element_written e w n x zs h l b =
    let m = next_is e w in
    let i = element_inside e w n x h l in
    record {
      front = take-put_mid (e * w) ((e + 1) * w - e * w) x zs ((e + 1) * w) (omega arith) (omega arith);
      behind = drop-put_mid (e * w) ((e + 1) * w - e * w) x zs ((e + 1) * w) (omega arith) (omega arith) (omega arith);
    }

pub pieces_more : (w n : ℕ) (x : List ℕ) → 0 < n → pieces w n x ≡ take w x ∷ pieces w (n - 1) (drop w x)
pieces_more w zero x h = absurd (omega arith)
pieces_more w (suc n) x h = let e : n ≡ suc n - 1 = omega arith in ap (λ k. take w x ∷ pieces w k (drop w x)) e

-- the elements from e on
pieces_from : (w n e : ℕ) (x : List ℕ) → e < n → pieces w (n - e) (drop (e * w) x) ≡ take w (drop (e * w) x) ∷ pieces w (n - (e + 1)) (drop ((e + 1) * w) x)
pieces_from w n e x h =
    let k : n - e - 1 ≡ n - (e + 1) = omega arith in
    rw (next_is e w, ← drop-drop w (e * w) x, ← k) (pieces_more w (n - e) (drop (e * w) x) (omega arith))

-- e of n elements are written, and with what the others become they make `all`
abbrev pub Writing : ℕ → (List (List ℕ) → List ℕ) → ℕ → List ℕ → ℕ → List ℕ → Type 0
Writing w become n all e x = take (e * w) x ++ become (pieces w (n - e) (drop (e * w) x)) ≡ all

module _ (w n e : ℕ) (x zs : List ℕ) (h : e < n) (l : n * w ≤ length x) where
  -- the bytes of element e
  pub piece_length : length (take ((e + 1) * w - e * w) (drop (e * w) x)) ≡ w
  piece_length =
      let k = width_is e w in
      let i = element_inside e w n x h l in
      length-take-le ((e + 1) * w - e * w) (drop (e * w) x) (simp length-drop (omega arith)) ∙ k

  -- element e too: it becomes zs
  pub writing_more : (become later : List (List ℕ) → List ℕ) (all : List ℕ) → length zs ≡ w
      → ((ps : List (List ℕ)) → become (take ((e + 1) * w - e * w) (drop (e * w) x) ∷ ps) ≡ zs ++ later ps)
      → Writing w become n all e x → Writing w later n all (e + 1) (put_mid (e * w) ((e + 1) * w - e * w) x zs)
  writing_more become later all b s g =
      let put = element_written e w n x zs h l b in
      let ps : List (List ℕ) = pieces w (n - (e + 1)) (drop ((e + 1) * w) x) in
      ap (λ a. take ((e + 1) * w) (put_mid (e * w) ((e + 1) * w - e * w) x zs) ++ later (pieces w (n - (e + 1)) a)) put.behind
      ∙ ap (λ a. a ++ later ps) put.front
      ∙ append_assoc (take (e * w) x) zs (later ps)
      ∙ ap (λ a. take (e * w) x ++ a)
      (sym (s ps) ∙ ap (λ a. become (take a (drop (e * w) x) ∷ ps)) (width_is e w) ∙ ap become (sym (pieces_from w n e x h)))
      ∙ g
