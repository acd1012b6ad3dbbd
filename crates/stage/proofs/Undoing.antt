-- What undoing in place answers and leaves, by the ways that it can go.
use Rattle.std.proofs.Common.{◌≡◌, ℕ, zero, suc, ◌+◌, ◌-◌, ◌<◌, ◌≤◌, Bool, true, false, cond, leb, List, length, get_or, take, Some, None, Ok, Err, Option, Result, sym, refl, ap, ◌∙◌, subst, arith}
use Rattle.std.proofs.lemmas.Bool.{and_parts, and_from, leb-true, le-leb}
use Rattle.form.specs.declared.fault.Fault.{Fault}
use Rattle.form.specs.declared.fault.Fault.TheVariants.{Checksum}
use Rattle.form.specs.Refusals.{Refusal, plain, failed, told, unless, only_if}
use Rattle.stage.specs.Stage.{Stage, first_false, failing, tested, answered, outcome}
use Rattle.stage.specs.Calls.{roomy, forward, size_answer, undo_in_place, InPlace, Undone}

-- what undoing from place i to place j leaves of a buffer, where the form, the places and the buffers are good
pub record Did {F G : Type 0} (t : Stage F G) (f : F) (i j : ℕ) (checks : Bool) (before behind : List ℕ) (r : Result ℕ Refusal) : Type 0 where
  pub answer : r ≡ outcome t f i j checks (take (t.size f i) before)
  pub bytes : (n : ℕ) → r ≡ Ok n → take n behind ≡ t.undone f i j (take (t.size f i) before)

below_cond : (b : Bool) (u : Option ℕ) (a n k : ℕ) → (u ≡ Some k → k < suc a + n) → cond b u (Some a) ≡ Some k → k < a + suc n
below_cond true u a n k h w = let d = h w in omega arith
below_cond false u a n k h w = let d : a ≡ k = cc in omega arith

pub first_false_below : (p : ℕ → Bool) (a n k : ℕ) → first_false p a n ≡ Some k → k < a + n
first_false_below p a zero k e = let z : ◌≡◌ {A = ℕ} 0 1 = cc in absurd (omega arith)
first_false_below p a (suc n) k e = below_cond (p a) (first_false p (suc a) n) a n k (first_false_below p (suc a) n k) e

pub answered_ok : (u : Option ℕ) (n k : ℕ) → Ok k ≡ answered u n → k ≡ n
answered_ok None n k e = cc
answered_ok (Some j) n k e = let z : ◌≡◌ {A = ℕ} 0 1 = cc in absurd (omega arith)

-- an answer that names a single names one below the place that is undone to
pub outcome_below : {F G : Type 0} (t : Stage F G) (f : F) (a b : ℕ) (c : Bool) (x : List ℕ) (k : ℕ) → a ≤ b → outcome t f a b c x ≡ Err (failed k) → k < b
outcome_below t f a b c x k h w = named c (failing t f a b x) refl w
  where
    named : (c : Bool) (u : Option ℕ) → failing t f a b x ≡ u → answered (tested c u) (t.size f b) ≡ Err (failed k) → k < b
    named true None q w = let z : ◌≡◌ {A = ℕ} 0 1 = cc in absurd (omega arith)
    named true (Some j) q w =
        let d = first_false_below _ a (b - a) j q in
        let z : failed j ≡ failed k = cc in
        let y : j ≡ k = ap (λ (v : Refusal). get_or v.values 0 0) z in
        omega arith
    named false u q w = let z : ◌≡◌ {A = ℕ} 0 1 = cc in absurd (omega arith)

told_ok : {X : Type 0} (r : Result X Fault) (x : X) → told r ≡ Ok x → r ≡ Ok x
told_ok (Ok y) x e = let z : y ≡ x = cc in ap Ok z
told_ok (Err d) x e = let z : ◌≡◌ {A = ℕ} 0 1 = cc in absurd (omega arith)

pub places : {F G : Type 0} (t : Stage F G) (a b : ℕ) → forward t a b ≡ true → (a ≤ b) × (b ≤ length t.singles)
places t a b e = let p = and_parts (leb a b) _ e in (leb-true a b p.0, leb-true b _ p.1)

pub placed : {F G : Type 0} (t : Stage F G) (a b : ℕ) → a ≤ b → b ≤ length t.singles → forward t a b ≡ true
placed t a b h k = and_from (leb a b) _ (le-leb a b h) (le-leb b _ k)

-- the ways that undoing in place can go, of a form that is taken
pub data Went {F G : Type 0} (t : Stage F G) (f : F) (a b : ℕ) (c : Bool) (w w' : List ℕ) (sc : ℕ) (q : Result ℕ Refusal) : Type 0 where
  nowhere : forward t a b ≡ false → q ≡ Err (plain 13) → Went t f a b c w w' sc q
  short : forward t a b ≡ true → roomy (length w) sc ≡ false → q ≡ Err (plain 14) → Went t f a b c w w' sc q
  went : forward t a b ≡ true → roomy (length w) sc ≡ true → Did t f a b c w w' q → Went t f a b c w w' sc q

module _ {F G : Type 0} (bF : F → ℕ) (t : Stage F G) (f : F) (r : t.refusal f ≡ None) where
  pub sized : (k : ℕ) → k ≤ length t.singles → size_answer t f k ≡ Ok (t.size f k)
  sized k h = let b : leb k (length t.singles) ≡ true = le-leb k _ h in rw (r, b)

  module _ (a b : ℕ) (c : Bool) (w w' : List ℕ) (sc : ℕ) (q : Result ℕ Fault) where
    abbrev x : List ℕ
    x = take (t.size f a) w

    by_room : (m : Bool) → roomy (length w) sc ≡ m → forward t a b ≡ true → told q ≡ only_if m 14 (outcome t f a b c x) → ((n : ℕ) → q ≡ Ok n → take n w' ≡ t.undone f a b x) → Went t f a b c w w' sc (told q)
    by_room true e h d y = went h e (record { answer = d; bytes = λ n u. y n (told_ok q n u) })
    by_room false e h d y = short h e d

    by_places : (m : Bool) → forward t a b ≡ m → told q ≡ only_if m 13 (only_if (roomy (length w) sc) 14 (outcome t f a b c x)) → ((n : ℕ) → q ≡ Ok n → take n w' ≡ t.undone f a b x) → Went t f a b c w w' sc (told q)
    by_places true e d y = by_room (roomy (length w) sc) refl e d y
    by_places false e d y = nowhere e d

    pub went_from : Undone bF t f a b c w w' sc q → Went t f a b c w w' sc (told q)
    went_from d =
        by_places (forward t a b) refl
        (d.answer_is ∙ ap (λ v. unless v (only_if (forward t a b) 13 (only_if (roomy (length w) sc) 14 (outcome t f a b c x)))) r)
        d.bytes

    -- a refusal leaves nothing to say of the buffer
    refused : (e : Refusal) (z : Result ℕ Refusal) → told q ≡ Err e → z ≡ Err e → InPlace z (t.undone f a b x) w' q
    refused e z u v = record {
      answer_is = u ∙ sym v;
      bytes = λ n h. let k : told q ≡ Ok n = ap told h in let o : ◌≡◌ {A = ℕ} 0 1 = cc in absurd (omega arith);
    }

    pub undone_from : Went t f a b c w w' sc (told q) → Undone bF t f a b c w w' sc q
    undone_from (nowhere h e) = refused (plain 13) (undo_in_place bF t f a b c w sc) e (rw (r, h))
    undone_from (short h m e) = refused (plain 14) (undo_in_place bF t f a b c w sc) e (rw (r, h, m))
    undone_from (went h m d) =
        let z : undo_in_place bF t f a b c w sc ≡ outcome t f a b c x = rw (r, h, m) in
        record { answer_is = d.answer ∙ sym z; bytes = λ n u. d.bytes n (ap told u) }

    pub room_of : roomy (length w) sc ≡ true → 4096 ≤ length w
    room_of e = leb-true 4096 (length w) (and_parts (leb 4096 (length w)) _ e).0

    -- a failed test is one of a single below the place that is undone to
    pub named_below : (k : ℕ) → Undone bF t f a b c w w' sc q → q ≡ Err (Checksum k) → k < b
    named_below k d e = by (went_from d)
      where
        by : Went t f a b c w w' sc (told q) → k < b
        by (nowhere h u) =
            let z : failed k ≡ plain 13 = cc in
            let n : ◌≡◌ {A = ℕ} 15 13 = ap (λ (v : Refusal). v.number) z in
            absurd (omega arith)
        by (short h m u) =
            let z : failed k ≡ plain 14 = cc in
            let n : ◌≡◌ {A = ℕ} 15 14 = ap (λ (v : Refusal). v.number) z in
            absurd (omega arith)
        by (went h m d) = outcome_below t f a b c x k (places t a b h).0 (sym d.answer ∙ ap told e)

-- the same call, from equal places and buffers
pub moved : {F G : Type 0} (bF : F → ℕ) (t : Stage F G) (f : F) (a a' b : ℕ) (c : Bool) (w w₀ w' : List ℕ) (sc sc₀ : ℕ) (q : Result ℕ Fault) → a' ≡ a → w₀ ≡ w → sc₀ ≡ sc → Undone bF t f a' b c w₀ w' sc₀ q → Undone bF t f a b c w w' sc q
moved bF t f a a' b c w w₀ w' sc sc₀ q ea ew es d =
    subst (λ v. Undone bF t f v b c w w' sc q) ea
    (subst (λ v. Undone bF t f a' b c v w' sc q) ew (subst (λ v. Undone bF t f a' b c w₀ w' v q) es d))
