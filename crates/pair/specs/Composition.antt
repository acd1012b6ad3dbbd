-- The laws of one stage after another, the first test that fails, and what the two halves' work makes of the pair's.
use Rattle.std.specs.Prelude.{◌≡◌, ℕ, zero, suc, ◌+◌, ◌-◌, ◌<◌, ◌≤◌, Bool, true, false, cond, ◌⊎◌, List, ◌++◌, length, take, Some, None, Ok, Err, Option, Result, nat_le, nat_lt, refl}
use Rattle.std.proofs.Common.{sym, ap, subst, ◌∙◌, inl, inr, ⊎_elim, arith, length-append}
use Rattle.std.specs.Option.{option_or}
use Rattle.std.proofs.lemmas.List.{length-take-le}
use Rattle.std.proofs.lemmas.Bool.{cond-true, cond-false, le-leb, lt-leb, lt-ltb, le-ltb, cases_lt}
use Rattle.form.specs.Refusals.{Refusal}
use Rattle.stage.specs.Stage.{Bytes, Stage, Laws, first_false, failing, answered, tested, outcome}
use Rattle.stage.proofs.Undoing.{Did, answered_ok}
use Rattle.pair.specs.Compose.{lifted, after}

-- a number's count from an earlier start
abbrev pub raised : ℕ → Option ℕ → Option ℕ
raised n None = None
raised n (Some k) = Some (n + k)

-- a second answer, where the first is no failure
abbrev pub followed : Result ℕ Refusal → Result ℕ Refusal → Result ℕ Refusal
followed (Ok k) r = r
followed (Err e) r = Err e

-- where neither of two refuses
pub neither : {X : Type 0} (a b : Option X) → option_or a b ≡ None → (a ≡ None) × (b ≡ None)
neither None b e = (refl, e)
neither (Some n) b e = let z : ◌≡◌ {A = ℕ} 0 1 = cc in absurd (omega arith)

cases_le : (m n : ℕ) → (m ≤ n) ⊎ (n < m)
cases_le m n = ⊎_elim (λ h. inr h) (λ h. inl h) (cases_lt n m)

-- the first number at which a test fails: by the tests' values, from another start, in two parts
first_false_same : (p q : ℕ → Bool) (a n : ℕ) → ((k : ℕ) → a ≤ k → k < a + n → p k ≡ q k) → first_false p a n ≡ first_false q a n
first_false_same p q a zero h = refl
first_false_same p q a (suc n) h =
    ap (λ b. cond b (first_false p (suc a) n) (Some a)) (h a (omega arith) (omega arith))
    ∙ ap (λ v. cond (q a) v (Some a)) (first_false_same p q (suc a) n (λ k u w. h k (omega arith) (omega arith)))

raised_cond : (c : ℕ) (b : Bool) (u : Option ℕ) (k : ℕ) → cond b (raised c u) (Some (c + k)) ≡ raised c (cond b u (Some k))
raised_cond c true u k = refl
raised_cond c false u k = refl

first_false_raised : (p : ℕ → Bool) (c a n : ℕ) → first_false p (c + a) n ≡ raised c (first_false (λ k. p (c + k)) a n)
first_false_raised p c a zero = refl
first_false_raised p c a (suc n) =
    let e : suc (c + a) ≡ c + suc a = omega arith in
    ap (λ v. cond (p (c + a)) (first_false p v n) (Some (c + a))) e
    ∙ ap (λ v. cond (p (c + a)) v (Some (c + a))) (first_false_raised p c (suc a) n)
    ∙ raised_cond c (p (c + a)) (first_false (λ k. p (c + k)) (suc a) n) a

or_cond : (b : Bool) (u v : Option ℕ) (k : ℕ) → cond b (option_or u v) (Some k) ≡ option_or (cond b u (Some k)) v
or_cond true u v k = refl
or_cond false u v k = refl

first_false_split : (p : ℕ → Bool) (a m n : ℕ) → first_false p a (m + n) ≡ option_or (first_false p a m) (first_false p (a + m) n)
first_false_split p a zero n =
    let e : 0 + n ≡ n = omega arith in
    let z : a ≡ a + 0 = omega arith in
    ap (first_false p a) e ∙ ap (λ v. first_false p v n) z
first_false_split p a (suc m) n =
    let e : suc m + n ≡ suc (m + n) = omega arith in
    let z : suc a + m ≡ a + suc m = omega arith in
    ap (first_false p a) e
    ∙ ap (λ v. cond (p a) v (Some a)) (first_false_split p (suc a) m n ∙ ap (λ v. option_or (first_false p (suc a) m) (first_false p v n)) z)
    ∙ or_cond (p a) (first_false p (suc a) m) (first_false p (a + suc m) n) a

answer_raised : (n k : ℕ) (u : Option ℕ) → answered (raised n u) k ≡ lifted n (answered u k)
answer_raised n k None = refl
answer_raised n k (Some j) = refl

tested_raised : (n : ℕ) (c : Bool) (u : Option ℕ) → tested c (raised n u) ≡ raised n (tested c u)
tested_raised n true u = refl
tested_raised n false u = refl

tested_or : (c : Bool) (u v : Option ℕ) → tested c (option_or u v) ≡ option_or (tested c u) (tested c v)
tested_or true u v = refl
tested_or false u v = refl

answer_or : (j k : ℕ) (u v : Option ℕ) → answered (option_or u v) k ≡ followed (answered u j) (answered v k)
answer_or j k None v = refl
answer_or j k (Some n) v = refl

lifted_ok : (n k : ℕ) (q : Result ℕ Refusal) → lifted n q ≡ Ok k → q ≡ Ok k
lifted_ok n k (Ok j) e = e
lifted_ok n k (Err d) e = let z : ◌≡◌ {A = ℕ} 0 1 = cc in absurd (omega arith)

module _ {F G H : Type 0} (bF : F → ℕ) (bG : G → ℕ) (bH : H → ℕ) (o : Stage G H) (i : Stage F G) (lo : Laws bG bH o) (li : Laws bF bG i) where
  abbrev s : ℕ
  s = length o.singles

  abbrev n : ℕ
  n = length i.singles

  abbrev p : Stage F H
  p = after o i

  abbrev all : ℕ
  all = length (o.singles ++ i.singles)

  pub all_is : all ≡ s + n
  all_is = length-append o.singles i.singles

  module _ (f : F) (r : p.refusal f ≡ None) where
    abbrev m : G
    m = i.coded f

    pub ri : i.refusal f ≡ None
    ri = (neither (i.refusal f) (o.refusal m) r).0

    pub ro : o.refusal m ≡ None
    ro = (neither (i.refusal f) (o.refusal m) r).1

    pub size_outer : (k : ℕ) → k ≤ s → p.size f k ≡ o.size m k
    size_outer k h = cond-true (nat_le k s) _ _ (le-leb k s h)

    pub meet : o.size m s ≡ i.size f 0
    meet = lo.last m ro ∙ sym (li.first f ri)

    pub size_inner : (k : ℕ) → s ≤ k → p.size f k ≡ i.size f (k - s)
    size_inner k h = ⊎_elim
        (λ (e : k ≤ s).
        let same : k ≡ s = omega arith in
        let none : 0 ≡ k - s = omega arith in
        size_outer k e ∙ ap (o.size m) same ∙ meet ∙ ap (i.size f) none)
        (λ (e : s < k). cond-false (nat_le k s) _ _ (lt-leb k s e))
        (cases_le k s)

    pub both_outer : (a b : ℕ) (x : List ℕ) → b ≤ s → p.undone f a b x ≡ o.undone m a b x
    both_outer a b x h = cond-true (nat_le b s) _ _ (le-leb b s h)

    pub both_inner : (a b : ℕ) (x : List ℕ) → s ≤ a → a ≤ b → b ≤ all → length x ≡ p.size f a → p.undone f a b x ≡ i.undone f (a - s) (b - s) x
    both_inner a b x h k t e = ⊎_elim
        (λ (u : b ≤ s).
        let ea : a ≡ s = omega arith in
        let bs : b ≡ s = omega arith in
        let za : 0 ≡ a - s = omega arith in
        let zb : 0 ≡ b - s = omega arith in
        let le : length x ≡ i.size f 0 = e ∙ size_inner a h ∙ sym (ap (i.size f) za) in
        both_outer a b x u ∙ ap (λ v. o.undone m v b x) ea ∙ ap (λ v. o.undone m s v x) bs
        ∙ lo.undone_none m s x ro (omega arith) (le ∙ sym meet)
        ∙ sym (li.undone_none f 0 x ri (omega arith) le)
        ∙ ap (λ v. i.undone f v 0 x) za ∙ ap (λ v. i.undone f (a - s) v x) zb)
        (λ (u : s < b). cond-false (nat_le b s) _ _ (lt-leb b s u) ∙ cond-true (nat_le s a) _ _ (le-leb s a h))
        (cases_le b s)

    pub outer_length : (a : ℕ) (x : List ℕ) → a ≤ s → length x ≡ p.size f a → length (o.undone m a s x) ≡ i.size f 0
    outer_length a x h e = lo.undone_size m a s x ro h (omega arith) (e ∙ size_outer a h) ∙ meet

    pub both_across : (a b : ℕ) (x : List ℕ) → a ≤ s → s ≤ b → b ≤ all → length x ≡ p.size f a → p.undone f a b x ≡ i.undone f 0 (b - s) (o.undone m a s x)
    both_across a b x h k t e = ⊎_elim
        (λ (u : b ≤ s).
        let bs : b ≡ s = omega arith in
        let zb : 0 ≡ b - s = omega arith in
        both_outer a b x u ∙ ap (λ v. o.undone m a v x) bs
        ∙ sym (li.undone_none f 0 (o.undone m a s x) ri (omega arith) (outer_length a x h e))
        ∙ ap (λ v. i.undone f 0 v (o.undone m a s x)) zb)
        (λ (u : s < b). ⊎_elim
        (λ (w : s ≤ a).
        let ea : s ≡ a = omega arith in
        let za : a - s ≡ 0 = omega arith in
        both_inner a b x w (omega arith) t e
        ∙ ap (λ v. i.undone f v (b - s) x) za
        ∙ ap (i.undone f 0 (b - s)) (sym (ap (λ v. o.undone m v s x) (sym ea) ∙ lo.undone_none m s x ro (omega arith) (e ∙ size_outer a h ∙ ap (o.size m) (sym ea)))))
        (λ (w : a < s). cond-false (nat_le b s) _ _ (lt-leb b s u) ∙ cond-false (nat_le s a) _ _ (lt-leb s a w))
        (cases_le s a))
        (cases_le b s)

    -- what the inner encodes has the length that the outer takes
    pub mid_length : (x : List ℕ) → length x ≡ bF f → length (i.encoded f x) ≡ bG m
    mid_length x e = li.encoded_size f x ri e ∙ li.first f ri

    out_length : (x : List ℕ) → length x ≡ bF f → length (p.encoded f x) ≡ p.size f 0
    out_length x e = lo.encoded_size m (i.encoded f x) ro (mid_length x e) ∙ sym (size_outer 0 (omega arith))

    undone_size : (a b : ℕ) (x : List ℕ) → a ≤ b → b ≤ all → length x ≡ p.size f a → length (p.undone f a b x) ≡ p.size f b
    undone_size a b x h t e =
        let q = all_is in
        ⊎_elim
        (λ (u : b ≤ s).
        let v : a ≤ s = omega arith in
        ap length (both_outer a b x u) ∙ lo.undone_size m a b x ro h u (e ∙ size_outer a v) ∙ sym (size_outer b u))
        (λ (u : s < b).
        let sb : s ≤ b = omega arith in
        ⊎_elim
        (λ (v : s ≤ a).
        ap length (both_inner a b x v h t e) ∙ li.undone_size f (a - s) (b - s) x ri (omega arith) (omega arith) (e ∙ size_inner a v) ∙ sym (size_inner b sb))
        (λ (v : a < s).
        let w : a ≤ s = omega arith in
        ap length (both_across a b x w sb t e) ∙ li.undone_size f 0 (b - s) (o.undone m a s x) ri (omega arith) (omega arith) (outer_length a x w e) ∙ sym (size_inner b sb))
        (cases_le s a))
        (cases_le b s)

    undone_bytes : (a b : ℕ) (x : List ℕ) → a ≤ b → b ≤ all → length x ≡ p.size f a → Bytes x → Bytes (p.undone f a b x)
    undone_bytes a b x h t e y =
        let q = all_is in
        ⊎_elim
        (λ (u : b ≤ s).
        let v : a ≤ s = omega arith in
        subst Bytes (sym (both_outer a b x u)) (lo.undone_bytes m a b x ro h u (e ∙ size_outer a v) y))
        (λ (u : s < b).
        let sb : s ≤ b = omega arith in
        ⊎_elim
        (λ (v : s ≤ a).
        subst Bytes (sym (both_inner a b x v h t e)) (li.undone_bytes f (a - s) (b - s) x ri (omega arith) (omega arith) (e ∙ size_inner a v) y))
        (λ (v : a < s).
        let w : a ≤ s = omega arith in
        subst Bytes (sym (both_across a b x w sb t e))
        (li.undone_bytes f 0 (b - s) (o.undone m a s x) ri (omega arith) (omega arith) (outer_length a x w e)
        (lo.undone_bytes m a s x ro w (omega arith) (e ∙ size_outer a w) y)))
        (cases_le s a))
        (cases_le b s)

    undone_none : (a : ℕ) (x : List ℕ) → a ≤ all → length x ≡ p.size f a → p.undone f a a x ≡ x
    undone_none a x t e =
        let q = all_is in
        ⊎_elim
        (λ (u : a ≤ s). both_outer a a x u ∙ lo.undone_none m a x ro u (e ∙ size_outer a u))
        (λ (u : s < a).
        let v : s ≤ a = omega arith in
        both_inner a a x v (omega arith) t e ∙ li.undone_none f (a - s) x ri (omega arith) (e ∙ size_inner a v))
        (cases_le a s)

    undone_on : (a b c : ℕ) (x : List ℕ) → a ≤ b → b ≤ c → c ≤ all → length x ≡ p.size f a → p.undone f b c (p.undone f a b x) ≡ p.undone f a c x
    undone_on a b c x h k t e =
        let q = all_is in
        let tb : b ≤ all = omega arith in
        let eb : length (p.undone f a b x) ≡ p.size f b = undone_size a b x h tb e in
        ⊎_elim
        (λ (u : c ≤ s).
        let ub : b ≤ s = omega arith in
        let ua : a ≤ s = omega arith in
        both_outer b c (p.undone f a b x) u ∙ ap (o.undone m b c) (both_outer a b x ub)
        ∙ lo.undone_on m a b c x ro h k u (e ∙ size_outer a ua) ∙ sym (both_outer a c x u))
        (λ (u : s < c).
        let sc : s ≤ c = omega arith in
        ⊎_elim
        (λ (v : s ≤ a).
        let vb : s ≤ b = omega arith in
        both_inner b c (p.undone f a b x) vb k t eb ∙ ap (i.undone f (b - s) (c - s)) (both_inner a b x v h tb e)
        ∙ li.undone_on f (a - s) (b - s) (c - s) x ri (omega arith) (omega arith) (omega arith) (e ∙ size_inner a v)
        ∙ sym (both_inner a c x v (omega arith) t e))
        (λ (v : a < s).
        let w : a ≤ s = omega arith in
        ⊎_elim
        (λ (z : b ≤ s).
        both_across b c (p.undone f a b x) z sc t eb
        ∙ ap (λ y. i.undone f 0 (c - s) (o.undone m b s y)) (both_outer a b x z)
        ∙ ap (i.undone f 0 (c - s)) (lo.undone_on m a b s x ro h z (omega arith) (e ∙ size_outer a w))
        ∙ sym (both_across a c x w sc t e))
        (λ (z : s < b).
        let zb : s ≤ b = omega arith in
        both_inner b c (p.undone f a b x) zb k t eb
        ∙ ap (i.undone f (b - s) (c - s)) (both_across a b x w zb tb e)
        ∙ li.undone_on f 0 (b - s) (c - s) (o.undone m a s x) ri (omega arith) (omega arith) (omega arith) (outer_length a x w e)
        ∙ sym (both_across a c x w sc t e))
        (cases_le b s))
        (cases_le s a))
        (cases_le c s)

    -- the outer undone wholly, of what both encoded
    inside : (b : ℕ) (x : List ℕ) → s ≤ b → b ≤ all → length x ≡ bF f → Bytes x → p.undone f 0 b (p.encoded f x) ≡ i.undone f 0 (b - s) (i.encoded f x)
    inside b x h t e y =
        both_across 0 b (p.encoded f x) (omega arith) h t (out_length x e)
        ∙ ap (i.undone f 0 (b - s)) (lo.whole m (i.encoded f x) ro (mid_length x e) (li.encoded_bytes f x ri e y))

    whole : (x : List ℕ) → length x ≡ bF f → Bytes x → p.undone f 0 all (p.encoded f x) ≡ x
    whole x e y =
        let q = all_is in
        let d : all - s ≡ n = omega arith in
        inside all x (omega arith) (omega arith) e y ∙ ap (λ v. i.undone f 0 v (i.encoded f x)) d ∙ li.whole f x ri e y

    passes_outer : (k : ℕ) (x : List ℕ) → k < s → p.passes f k x ≡ o.passes m k x
    passes_outer k x h = cond-true (nat_lt k s) _ _ (lt-ltb k s h)

    passes_inner : (k : ℕ) (x : List ℕ) → s ≤ k → p.passes f k x ≡ i.passes f (k - s) x
    passes_inner k x h = cond-false (nat_lt k s) _ _ (le-ltb k s h)

    passing : (k : ℕ) (x : List ℕ) → k < all → length x ≡ bF f → Bytes x → p.passes f k (p.undone f 0 k (p.encoded f x)) ≡ true
    passing k x t e y =
        let q = all_is in
        ⊎_elim
        (λ (u : k < s).
        let w : k ≤ s = omega arith in
        passes_outer k _ u ∙ ap (o.passes m k) (both_outer 0 k (p.encoded f x) w)
        ∙ lo.passing m k (i.encoded f x) ro u (mid_length x e) (li.encoded_bytes f x ri e y))
        (λ (u : s ≤ k).
        passes_inner k _ u ∙ ap (i.passes f (k - s)) (inside k x u (omega arith) e y)
        ∙ li.passing f (k - s) x ri (omega arith) e y)
        (cases_lt k s)

    bound : (k : ℕ) → k ≤ all → p.size f k ≤ 4096
    bound k t =
        let q = all_is in
        ⊎_elim
        (λ (u : k ≤ s). rw (size_outer k u) (lo.bound m k ro u))
        (λ (u : s < k). let v : s ≤ k = omega arith in rw (size_inner k v) (li.bound f (k - s) ri (omega arith)))
        (cases_le k s)

    last : p.size f all ≡ bF f
    last =
        let q = all_is in
        let d : all - s ≡ n = omega arith in
        size_inner all (omega arith) ∙ ap (i.size f) d ∙ li.last f ri

    failing_outer : (a b : ℕ) (x : List ℕ) → a ≤ b → b ≤ s → failing p f a b x ≡ failing o m a b x
    failing_outer a b x h u =
        first_false_same _ _ a (b - a) (λ k v w.
        let ks : k < s = omega arith in
        let kl : k ≤ s = omega arith in
        passes_outer k _ ks ∙ ap (o.passes m k) (both_outer a k x kl))

    failing_inner : (a b : ℕ) (x : List ℕ) → s ≤ a → a ≤ b → b ≤ all → length x ≡ p.size f a → failing p f a b x ≡ raised s (failing i f (a - s) (b - s) x)
    failing_inner a b x h k t e =
        let ea : a ≡ s + (a - s) = omega arith in
        let eb : b - a ≡ (b - s) - (a - s) = omega arith in
        let P : ℕ → Bool = λ j. p.passes f j (p.undone f a j x) in
        ap (λ v. first_false P v (b - a)) ea ∙ ap (first_false P (s + (a - s))) eb
        ∙ first_false_raised P s (a - s) ((b - s) - (a - s))
        ∙ ap (raised s) (first_false_same _ _ (a - s) ((b - s) - (a - s)) (λ j v w.
        let ej : (s + j) - s ≡ j = omega arith in
        passes_inner (s + j) _ (omega arith) ∙ ap (i.passes f ((s + j) - s)) (both_inner a (s + j) x h (omega arith) (omega arith) e)
        ∙ ap (λ q. i.passes f q (i.undone f (a - s) q x)) ej))

    failing_across : (a b : ℕ) (x : List ℕ) → a ≤ s → s ≤ b → b ≤ all → length x ≡ p.size f a → failing p f a b x ≡ option_or (failing o m a s x) (raised s (failing i f 0 (b - s) (o.undone m a s x)))
    failing_across a b x h k t e =
        let eb : b - a ≡ (s - a) + (b - s) = omega arith in
        let es : a + (s - a) ≡ s + 0 = omega arith in
        let ez : b - s ≡ (b - s) - 0 = omega arith in
        let P : ℕ → Bool = λ j. p.passes f j (p.undone f a j x) in
        ap (first_false P a) eb ∙ first_false_split P a (s - a) (b - s)
        ∙ ap (λ v. option_or v (first_false P (a + (s - a)) (b - s))) (failing_outer a s x h (omega arith))
        ∙ ap (option_or (failing o m a s x))
        (ap (λ v. first_false P v (b - s)) es ∙ first_false_raised P s 0 (b - s)
        ∙ ap (λ v. raised s (first_false (λ j. P (s + j)) 0 v)) ez
        ∙ ap (raised s) (first_false_same _ _ 0 ((b - s) - 0) (λ j v w.
        let ej : (s + j) - s ≡ j = omega arith in
        passes_inner (s + j) _ (omega arith) ∙ ap (i.passes f ((s + j) - s)) (both_across a (s + j) x h (omega arith) (omega arith) e)
        ∙ ap (λ q. i.passes f q (i.undone f 0 q (o.undone m a s x))) ej)))

    -- what undoing the pair answers, by where the two places lie
    pub outcome_outer : (a b : ℕ) (c : Bool) (x : List ℕ) → a ≤ b → b ≤ s → outcome p f a b c x ≡ outcome o m a b c x
    outcome_outer a b c x h u =
        ap (λ v. answered (tested c v) (p.size f b)) (failing_outer a b x h u) ∙ ap (answered (tested c (failing o m a b x))) (size_outer b u)

    pub outcome_inner : (a b : ℕ) (c : Bool) (x : List ℕ) → s ≤ a → a ≤ b → b ≤ all → length x ≡ p.size f a → outcome p f a b c x ≡ lifted s (outcome i f (a - s) (b - s) c x)
    outcome_inner a b c x h k t e =
        let sb : s ≤ b = omega arith in
        ap (λ v. answered (tested c v) (p.size f b)) (failing_inner a b x h k t e)
        ∙ ap (answered (tested c (raised s (failing i f (a - s) (b - s) x)))) (size_inner b sb)
        ∙ ap (λ v. answered v (i.size f (b - s))) (tested_raised s c (failing i f (a - s) (b - s) x))
        ∙ answer_raised s (i.size f (b - s)) (tested c (failing i f (a - s) (b - s) x))

    pub outcome_across : (a b : ℕ) (c : Bool) (x : List ℕ) → a ≤ s → s ≤ b → b ≤ all → length x ≡ p.size f a → outcome p f a b c x ≡ followed (outcome o m a s c x) (lifted s (outcome i f 0 (b - s) c (o.undone m a s x)))
    outcome_across a b c x h k t e =
        let y : List ℕ = o.undone m a s x in
        ap (λ v. answered (tested c v) (p.size f b)) (failing_across a b x h k t e)
        ∙ ap (answered (tested c (option_or (failing o m a s x) (raised s (failing i f 0 (b - s) y))))) (size_inner b k)
        ∙ ap (λ v. answered v (i.size f (b - s))) (tested_or c (failing o m a s x) (raised s (failing i f 0 (b - s) y)))
        ∙ answer_or (o.size m s) (i.size f (b - s)) (tested c (failing o m a s x)) (tested c (raised s (failing i f 0 (b - s) y)))
        ∙ ap (followed (outcome o m a s c x))
        (ap (λ v. answered v (i.size f (b - s))) (tested_raised s c (failing i f 0 (b - s) y))
        ∙ answer_raised s (i.size f (b - s)) (tested c (failing i f 0 (b - s) y)))

    taken_length : (a : ℕ) (w : List ℕ) → a ≤ all → 4096 ≤ length w → length (take (p.size f a) w) ≡ p.size f a
    taken_length a w t h = let b = bound a t in length-take-le (p.size f a) w (omega arith)

    -- the pair is undone, where its halves are
    pub done_outer : (a b : ℕ) (c : Bool) (w w' : List ℕ) (q : Result ℕ Refusal) (g : G) → a ≤ b → b ≤ s → g ≡ m → Did o g a b c w w' q → Did p f a b c w w' q
    done_outer a b c w w' q g h u eg d' =
        let d : Did o m a b c w w' q = subst (λ v. Did o v a b c w w' q) eg d' in
        let ua : a ≤ s = omega arith in
        let z : o.size m a ≡ p.size f a = sym (size_outer a ua) in
        record {
          answer = d.answer ∙ ap (λ v. outcome o m a b c (take v w)) z ∙ sym (outcome_outer a b c (take (p.size f a) w) h u);
          bytes = λ n e. d.bytes n e ∙ ap (λ v. o.undone m a b (take v w)) z ∙ sym (both_outer a b (take (p.size f a) w) u);
        }

    pub done_inner : (a b : ℕ) (c : Bool) (w w' : List ℕ) (q : Result ℕ Refusal) (t : ℕ) → t ≡ s → t ≤ a → a ≤ b → b ≤ all → 4096 ≤ length w → Did i f (a - t) (b - t) c w w' q → Did p f a b c w w' (lifted t q)
    done_inner a b c w w' q t et ta k l h d' =
        let v : s ≤ a = omega arith in
        let d : Did i f (a - s) (b - s) c w w' q = subst (λ v. Did i f (a - v) (b - v) c w w' q) et d' in
        let z : i.size f (a - s) ≡ p.size f a = sym (size_inner a v) in
        let e : length (take (p.size f a) w) ≡ p.size f a = taken_length a w (omega arith) h in
        record {
          answer =
              ap (λ v. lifted v q) et
              ∙ ap (lifted s) (d.answer ∙ ap (λ v. outcome i f (a - s) (b - s) c (take v w)) z)
              ∙ sym (outcome_inner a b c (take (p.size f a) w) v k l e);
          bytes = λ n y.
              d.bytes n (lifted_ok t n q y) ∙ ap (λ v. i.undone f (a - s) (b - s) (take v w)) z
              ∙ sym (both_inner a b (take (p.size f a) w) v k l e);
        }

    pub done_failed : (a b : ℕ) (c : Bool) (w w' : List ℕ) (x : Refusal) (g : G) (t : ℕ) → t ≡ s → a ≤ t → t ≤ b → b ≤ all → 4096 ≤ length w → g ≡ m → Did o g a t c w w' (Err x) → Did p f a b c w w' (Err x)
    done_failed a b c w w' x g t et h k l r' eg d' =
        let ha : a ≤ s = omega arith in
        let d : Did o m a s c w w' (Err x) = subst (λ v. Did o m a v c w w' (Err x)) et (subst (λ v. Did o v a t c w w' (Err x)) eg d') in
        let y : List ℕ = take (p.size f a) w in
        let e : length y ≡ p.size f a = taken_length a w (omega arith) r' in
        let z : o.size m a ≡ p.size f a = sym (size_outer a ha) in
        record {
          answer =
              ap (λ v. followed v (lifted s (outcome i f 0 (b - s) c (o.undone m a s y)))) (d.answer ∙ ap (λ v. outcome o m a s c (take v w)) z)
              ∙ sym (outcome_across a b c y ha (omega arith) l e);
          bytes = λ n q. let z : ◌≡◌ {A = ℕ} 0 1 = cc in absurd (omega arith);
        }

    pub done_across : (a b : ℕ) (c : Bool) (w w' w'' : List ℕ) (z : ℕ) (q : Result ℕ Refusal) (g : G) (t : ℕ) → t ≡ s → a ≤ t → t ≤ b → b ≤ all → 4096 ≤ length w → g ≡ m → Did o g a t c w w' (Ok z) → Did i f 0 (b - t) c w' w'' q → Did p f a b c w w'' (lifted t q)
    done_across a b c w w' w'' z q g t et h k l r' eg d' k' =
        let ha : a ≤ s = omega arith in
        let kb : s ≤ b = omega arith in
        let d : Did o m a s c w w' (Ok z) = subst (λ v. Did o m a v c w w' (Ok z)) et (subst (λ v. Did o v a t c w w' (Ok z)) eg d') in
        let j : Did i f 0 (b - s) c w' w'' q = subst (λ v. Did i f 0 (b - v) c w' w'' q) et k' in
        let x : List ℕ = take (p.size f a) w in
        let y : List ℕ = o.undone m a s x in
        let e : length x ≡ p.size f a = taken_length a w (omega arith) r' in
        let za : o.size m a ≡ p.size f a = sym (size_outer a ha) in
        let dn : z ≡ o.size m s = answered_ok (tested c (failing o m a s (take (o.size m a) w))) (o.size m s) z d.answer in
        let there : take (i.size f 0) w' ≡ y = ap (λ v. take v w') (sym (dn ∙ meet)) ∙ d.bytes z refl ∙ ap (λ v. o.undone m a s (take v w)) za in
        record {
          answer =
              ap (λ v. lifted v q) et ∙ ap (lifted s) (j.answer ∙ ap (outcome i f 0 (b - s) c) there)
              ∙ ap (λ v. followed v (lifted s (outcome i f 0 (b - s) c y))) (d.answer ∙ ap (λ v. outcome o m a s c (take v w)) za)
              ∙ sym (outcome_across a b c x ha kb l e);
          bytes = λ u v.
              j.bytes u (lifted_ok t u q v) ∙ ap (i.undone f 0 (b - s)) there
              ∙ sym (both_across a b x ha kb l e);
        }

  pub after_laws : Laws bF bH (after o i)
  after_laws = record {
    first = λ f r. size_outer f r 0 (omega arith) ∙ lo.first (i.coded f) (ro f r);
    last = last;
    bound = λ f k r t. bound f r k t;
    encoded_size = λ f x r e. out_length f r x e;
    encoded_bytes = λ f x r e y. lo.encoded_bytes (i.coded f) (i.encoded f x) (ro f r) (mid_length f r x e) (li.encoded_bytes f x (ri f r) e y);
    undone_size = λ f a b x r h t e. undone_size f r a b x h t e;
    undone_bytes = λ f a b x r h t e y. undone_bytes f r a b x h t e y;
    undone_none = λ f a x r t e. undone_none f r a x t e;
    undone_on = λ f a b c x r h k t e. undone_on f r a b c x h k t e;
    whole = λ f x r e y. whole f r x e y;
    passing = λ f k x r t e y. passing f r k x t e y;
  }
