-- What the calls of a pair answer, from what the calls of its halves do.
use Rattle.std.proofs.Common.{◌≡◌, ℕ, ◌+◌, ◌-◌, ◌≤◌, Bool, true, false, ◌&&◌, leb, List, ◌++◌, length, None, Ok, Err, Result, sym, refl, ap, ◌∙◌, subst, ⊎_elim, arith, length-append}
use Rattle.std.proofs.lemmas.Bool.{and_cases, leb-false, lt-leb}
use Rattle.form.specs.declared.fault.Fault.{Fault}
use Rattle.form.specs.Refusals.{Refusal, refusal, told, unless}
use Rattle.stage.specs.Stage.{Stage, Laws}
use Rattle.pair.specs.Compose.{lifted, after}
use Rattle.stage.specs.Calls.{roomy, forward, Undone}
use Rattle.stage.proofs.Refusing.{unless_ok}
use Rattle.stage.proofs.Undoing.{Did, Went, nowhere, short, went, places, placed, went_from, undone_from, room_of}
use Rattle.pair.specs.Composition.{ri, ro, done_outer, done_inner, done_failed, done_across}

-- two halves that keep their laws, and a form that both take, with the form between them
pub record Halves {F G H : Type 0} (bF : F → ℕ) (bG : G → ℕ) (bH : H → ℕ) (o : Stage G H) (i : Stage F G) (f : F) (g : G) : Type 0 where
  pub outer_laws : Laws bG bH o
  pub inner_laws : Laws bF bG i
  pub taken : Ok g ≡ unless ((after o i).refusal f) (Ok (i.coded f))

module _ {F G H : Type 0} {bF : F → ℕ} {bG : G → ℕ} {bH : H → ℕ} {o : Stage G H} {i : Stage F G} {f : F} {g : G} (halves : Halves bF bG bH o i f g) where
  lo : Laws bG bH o
  lo = halves.outer_laws

  li : Laws bF bG i
  li = halves.inner_laws

  abbrev s : ℕ
  s = length o.singles

  abbrev n : ℕ
  n = length i.singles

  abbrev p : Stage F H
  p = after o i

  abbrev all : ℕ
  all = length (o.singles ++ i.singles)

  r : p.refusal f ≡ None
  r = (unless_ok (p.refusal f) (Ok (i.coded f)) g halves.taken).0

  eg : g ≡ i.coded f
  eg = let e = (unless_ok (p.refusal f) (Ok (i.coded f)) g halves.taken).1 in cc

  total : all ≡ s + n
  total = length-append o.singles i.singles

  pub inner_taken : i.refusal f ≡ None
  inner_taken = ri bF bG bH o i lo li f r

  outer_taken : o.refusal g ≡ None
  outer_taken = ap o.refusal eg ∙ ro bF bG bH o i lo li f r

  module _ (a b : ℕ) (c : Bool) (w w' : List ℕ) (sc : ℕ) (q : Result ℕ Fault) where
    pub undone_outer : b ≤ s → Undone bG o g a b c w w' sc q → Undone bF p f a b c w w' sc q
    undone_outer h d = undone_from bF p f r a b c w w' sc q (by (went_from bG o g outer_taken a b c w w' sc q d))
      where
        by : Went o g a b c w w' sc (told q) → Went p f a b c w w' sc (told q)
        by (nowhere u v) =
            nowhere (⊎_elim (λ (e : leb a b ≡ false). ap (λ x. x && leb b all) e) (λ (e : leb b s ≡ false). let k = leb-false b s e in absurd (omega arith)) (and_cases (leb a b) (leb b s) u)) v
        by (short u m v) = let k = places o a b u in short (placed p a b k.0 (omega (arith, total))) m v
        by (went u m y) =
            let k = places o a b u in
            went (placed p a b k.0 (omega (arith, total))) m (done_outer bF bG bH o i lo li f r a b c w w' (told q) g k.0 h eg y)

    pub undone_inner : (t : ℕ) (v : Result ℕ Fault) → t ≡ s → t ≤ a → t ≤ b → b - t ≤ n → told q ≡ lifted t (told v) → Undone bF i f (a - t) (b - t) c w w' sc v → Undone bF p f a b c w w' sc q
    undone_inner t v e h hb k y d = undone_from bF p f r a b c w w' sc q (by (told v) refl (went_from bF i f inner_taken (a - t) (b - t) c w w' sc v d))
      where
        by : (u : Result ℕ Refusal) → told v ≡ u → Went i f (a - t) (b - t) c w w' sc u → Went p f a b c w w' sc (told q)
        by u eu (nowhere m z) =
            nowhere
            (⊎_elim
            (λ (x : leb (a - t) (b - t) ≡ false). let l = leb-false (a - t) (b - t) x in ap (λ x. x && leb b all) (lt-leb a b (omega arith)))
            (λ (x : leb (b - t) n ≡ false). let l = leb-false (b - t) n x in absurd (omega arith))
            (and_cases (leb (a - t) (b - t)) (leb (b - t) n) m))
            (y ∙ ap (lifted t) (eu ∙ z))
        by u eu (short m m' z) =
            let l = places i (a - t) (b - t) m in
            short (placed p a b (omega arith) (omega (arith, total))) m' (y ∙ ap (lifted t) (eu ∙ z))
        by u eu (went m m' z) =
            let l = places i (a - t) (b - t) m in
            let ab : a ≤ b = omega arith in
            let ba : b ≤ all = omega (arith, total) in
            went (placed p a b ab ba) m'
            (subst (Did p f a b c w w') (sym (y ∙ ap (lifted t) eu))
            (done_inner bF bG bH o i lo li f r a b c w w' u t e h ab ba (room_of bF i f inner_taken (a - t) (b - t) c w w' sc v m') z))

  -- the outer half is undone from a to its last place first
  module _ (a b : ℕ) (c : Bool) (w w' w'' : List ℕ) (sc sc' : ℕ) (t : ℕ) (e : t ≡ s) (ha : a ≤ t) (hb : t ≤ b) (k : b - t ≤ n) where
    in_all : b ≤ all
    in_all = omega (arith, total)

    pub undone_failed : (q v : Result ℕ Fault) (x : Fault) → v ≡ Err x → told q ≡ Err (refusal x) → Undone bG o g a t c w w' sc v → Undone bF p f a b c w w' sc q
    undone_failed q v x ev eq d = undone_from bF p f r a b c w w' sc q (by (told v) refl (went_from bG o g outer_taken a t c w w' sc v d))
      where
        same : told q ≡ told v
        same = eq ∙ sym (ap told ev)

        by : (u : Result ℕ Refusal) → told v ≡ u → Went o g a t c w w' sc u → Went p f a b c w w' sc (told q)
        by u eu (nowhere m z) =
            absurd (⊎_elim
            (λ (y : leb a t ≡ false). let l = leb-false a t y in omega arith)
            (λ (y : leb t s ≡ false). let l = leb-false t s y in omega arith)
            (and_cases (leb a t) (leb t s) m))
        by u eu (short m m' z) = short (placed p a b (omega arith) in_all) m' (same ∙ eu ∙ z)
        by u eu (went m m' z) =
            went (placed p a b (omega arith) in_all) m'
            (subst (Did p f a b c w w') (sym eq)
            (done_failed bF bG bH o i lo li f r a b c w w' (refusal x) g t e ha hb in_all (room_of bG o g outer_taken a t c w w' sc v m') eg
            (subst (Did o g a t c w w') (sym eu ∙ ap told ev) z)))

    pub undone_across : (q u v : Result ℕ Fault) (m : ℕ) → u ≡ Ok m → length w' ≡ length w → sc' ≡ sc → told q ≡ lifted t (told v) → Undone bG o g a t c w w' sc u → Undone bF i f 0 (b - t) c w' w'' sc' v → Undone bF p f a b c w w'' sc q
    undone_across q u v m eu lw ls y d d' =
        undone_from bF p f r a b c w w'' sc q
        (outer (told u) (ap told eu) (went_from bG o g outer_taken a t c w w' sc u d))
      where
        outer : (z : Result ℕ Refusal) → z ≡ Ok m → Went o g a t c w w' sc z → Went p f a b c w w'' sc (told q)
        outer z ez (nowhere h x) = let o : ◌≡◌ {A = ℕ} 0 1 = cc in absurd (omega arith)
        outer z ez (short h h' x) = let o : ◌≡◌ {A = ℕ} 0 1 = cc in absurd (omega arith)
        outer z ez (went h h' x) = inner (told v) refl (went_from bF i f inner_taken 0 (b - t) c w' w'' sc' v d')
          where
            inner : (j : Result ℕ Refusal) → told v ≡ j → Went i f 0 (b - t) c w' w'' sc' j → Went p f a b c w w'' sc (told q)
            inner j ej (nowhere k' l) = let z : forward i 0 (b - t) ≡ true = placed i 0 (b - t) (omega arith) k in let o : true ≡ false = sym z ∙ k' in let o : ◌≡◌ {A = ℕ} 0 1 = cc in absurd (omega arith)
            inner j ej (short k' l x') = let z : roomy (length w') sc' ≡ true = ap (λ v. roomy v sc') lw ∙ ap (roomy (length w)) ls ∙ h' in let o : true ≡ false = sym z ∙ l in let o : ◌≡◌ {A = ℕ} 0 1 = cc in absurd (omega arith)
            inner j ej (went k' l x') =
                went (placed p a b (omega arith) in_all) h'
                (subst (Did p f a b c w w'') (sym (y ∙ ap (lifted t) ej))
                (done_across bF bG bH o i lo li f r a b c w w' w'' m j g t e ha hb in_all (room_of bG o g outer_taken a t c w w' sc u h') eg (subst (Did o g a t c w w') ez x) x'))
