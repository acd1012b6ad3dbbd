-- An index and a number give each other, and a permuted array has as many elements.
use Rattle.std.proofs.Common.{◌≡◌, ℕ, zero, suc, ◌+◌, ◌*◌, ◌/◌, ◌%◌, ◌<◌, ◌≤◌, Bool, true, false, cond, eqb, sym, refl, ap, ◌∙◌, subst, ⊎_elim, arith}
use Rattle.std.proofs.Math.Nat.{mul_right_comm}
use Rattle.std.proofs.Props.{props}
use mathlib.Core.Path.{fun_ext}
use mathlib.Core.HLevel.{is_prop→PathP}
use Rattle.std.proofs.lemmas.Nat.{div-mul-add, mod-mul-add, mul-le, div_below, mod_below, div-add-mod'}
use Rattle.std.proofs.lemmas.Bool.{cond-true, cond-false, eq-eqb, ne_eqb, cases_eq, cases_lt}
use Rattle.form.proofs.Shapes.{positive}
use Rattle.form.specs.Shapes.{count}
use Rattle.stage.proofs.Gathers.{inside}
use Rattle.axes.specs.Axes.{offset, index, Indexed, Numbered, Onto}

pub count_same : (f g : ℕ → ℕ) (r : ℕ) → ((a : ℕ) → a < r → f a ≡ g a) → count f r ≡ count g r
count_same f g zero h = refl
count_same f g (suc r) h =
    let e = count_same f g r (λ a l. h a (omega arith)) in
    let d = h r (omega arith) in
    cc

pub offset_same : (lens i j : ℕ → ℕ) (r : ℕ) → ((a : ℕ) → a < r → i a ≡ j a) → offset lens i r ≡ offset lens j r
offset_same lens i j zero h = refl
offset_same lens i j (suc r) h =
    let e = offset_same lens i j r (λ a l. h a (omega arith)) in
    let d = h r (omega arith) in
    cc

-- the index on the last axis, and on the others
pub index_last : (lens : ℕ → ℕ) (r n : ℕ) → index lens (suc r) n r ≡ n % lens r
index_last lens r n = cond-true (eqb r r) _ _ (eq-eqb r r refl)

pub index_rest : (lens : ℕ → ℕ) (r n a : ℕ) → (a ≡ r → ⊥) → index lens (suc r) n a ≡ index lens r (n / lens r) a
index_rest lens r n a ne = cond-false (eqb a r) _ _ (ne_eqb a r ne)

pub index_below : (lens : ℕ → ℕ) (r n a : ℕ) → n < count lens r → a < r → index lens r n a < lens a
index_below lens zero n a h l = absurd (omega arith)
index_below lens (suc r) n a h l =
    let w = (positive (count lens r) (lens r) (omega arith)).1 in
    ⊎_elim
    (λ (e : a ≡ r). subst (λ v. index lens (suc r) n v < lens v) (sym e) (rw (index_last lens r n) (mod_below n (lens r) w)))
    (λ (e : a ≡ r → ⊥). rw (index_rest lens r n a e) (index_below lens r (n / lens r) a (div_below n (lens r) (count lens r) w h) (omega arith)))
    (cases_eq a r)

pub offset-index : (lens : ℕ → ℕ) (r n : ℕ) → n < count lens r → offset lens (index lens r n) r ≡ n
offset-index lens zero n h = omega arith
offset-index lens (suc r) n h =
    let w = (positive (count lens r) (lens r) (omega arith)).1 in
    let e : offset lens (index lens (suc r) n) r ≡ offset lens (index lens r (n / lens r)) r
    = offset_same lens _ _ r (λ a l. index_rest lens r n a (λ q. omega arith)) in
    let k = offset-index lens r (n / lens r) (div_below n (lens r) (count lens r) w h) in
    let d = index_last lens r n in
    let m = div-add-mod' n (lens r) in
    cc

pub index-offset : (lens i : ℕ → ℕ) (r a : ℕ) → ((b : ℕ) → b < r → i b < lens b) → a < r → index lens r (offset lens i r) a ≡ i a
index-offset lens i zero a h l = absurd (omega arith)
index-offset lens i (suc r) a h l =
    let b : i r < lens r = h r (omega arith) in
    let n : ℕ = offset lens i r * lens r + i r in
    ⊎_elim
    (λ (e : a ≡ r). subst (λ v. index lens (suc r) n v ≡ i v) (sym e) (index_last lens r n ∙ mod-mul-add (offset lens i r) (lens r) (i r) b))
    (λ (e : a ≡ r → ⊥).
    index_rest lens r n a e ∙ ap (λ m. index lens r m a) (div-mul-add (offset lens i r) (lens r) (i r) b)
    ∙ index-offset lens i r a (λ c k. h c (omega arith)) (omega arith))
    (cases_eq a r)

pub offset_below : (lens i : ℕ → ℕ) (r : ℕ) → ((b : ℕ) → b < r → i b < lens b) → offset lens i r < count lens r
offset_below lens i zero h = omega arith
offset_below lens i (suc r) h = inside (offset lens i r) (lens r) (i r) (count lens r) (offset_below lens i r (λ c k. h c (omega arith))) (h r (omega arith))

-- a product with one factor changed
apart : (f : ℕ → ℕ) (b : Bool) (x y : ℕ) → cond b (f x) (f y) ≡ f (cond b x y)
apart f true x y = refl
apart f false x y = refl

changed : (g : ℕ → ℕ) (p v r : ℕ) → p < r → count (λ k. cond (eqb k p) v (g k)) r * g p ≡ count g r * v
changed g p v zero h = absurd (omega arith)
changed g p v (suc r) h =
    let g' : ℕ → ℕ = λ k. cond (eqb k p) v (g k) in
    ⊎_elim
    (λ (e : p ≡ r).
    let a : count g' r ≡ count g r = count_same g' g r (λ k l. cond-false (eqb k p) v (g k) (ne_eqb k p (λ q. omega arith))) in
    let b : g' r ≡ v = cond-true (eqb r p) v (g r) (eq-eqb r p (sym e)) in
    let d : g p ≡ g r = ap g e in
    let c = mul_right_comm (count g r) v (g r) in
    cc)
    (λ (e : p ≡ r → ⊥).
    let k = changed g p v r (omega arith) in
    let b : g' r ≡ g r = cond-false (eqb r p) v (g r) (ne_eqb r p (λ q. e (sym q))) in
    let c = mul_right_comm (count g' r) (g r) (g p) in
    let d = mul_right_comm (count g r) v (g r) in
    cc)
    (cases_eq p r)

pub count_permuted : (f order : ℕ → ℕ) (r : ℕ) → Onto order r → count (λ k. f (order k)) r ≡ count f r
count_permuted f order zero s = refl
count_permuted f order (suc r) s = go (λ o z. count_permuted f o r z) (s r (omega arith)).0 (s r (omega arith)).1 (s r (omega arith)).2
  where
    go : ((o : ℕ → ℕ) → Onto o r → count (λ k. f (o k)) r ≡ count f r) → (p : ℕ) → p < suc r → order p ≡ r → count (λ k. f (order k)) (suc r) ≡ count f (suc r)
    go ih p h e =
        ⊎_elim
        (λ (q : p ≡ r).
        let o : order r ≡ r = ap order (sym q) ∙ e in
        let i = ih order
        (λ a l.
        let w = s a (omega arith) in
        let ne : w.0 ≡ r → ⊥ = λ z. let y : a ≡ r = sym w.2 ∙ ap order z ∙ o in omega arith in
        (w.0, omega arith, w.2)) in
        let b : f (order r) ≡ f r = ap f o in
        cc)
        (λ (q : p ≡ r → ⊥).
        let l : p < r = omega arith in
        let order' : ℕ → ℕ = λ k. cond (eqb k p) (order r) (order k) in
        let onto' : Onto order' r =
        λ a m.
        let w = s a (omega arith) in
        ⊎_elim
        (λ (z : w.0 ≡ r). (p, l, cond-true (eqb p p) (order r) (order p) (eq-eqb p p refl) ∙ ap order (sym z) ∙ w.2))
        (λ (z : w.0 ≡ r → ⊥).
        let ne : w.0 ≡ p → ⊥ = λ u. let y : a ≡ r = sym w.2 ∙ ap order u ∙ e in omega arith in
        (w.0, omega arith, cond-false (eqb w.0 p) (order r) (order w.0) (ne_eqb w.0 p ne) ∙ w.2))
        (cases_eq w.0 r) in
        let i = ih order' onto' in
        let c = changed (λ k. f (order k)) p (f (order r)) r l in
        let d : count (λ k. cond (eqb k p) (f (order r)) (f (order k))) r ≡ count (λ k. f (order' k)) r
        = count_same _ _ r (λ k u. apart f (eqb k p) (order r) (order k)) in
        let b : f (order p) ≡ f r = ap f e in
        cc)
        (cases_eq p r)

-- one factor is 2, so the product is not 1
twice : (g : ℕ → ℕ) (k r : ℕ) → k < r → g k ≡ 2 → count g r ≡ 1 → ⊥
twice g k r h e o =
    let c = changed g k 1 r h in
    let m : count (λ j. cond (eqb j k) 1 (g j)) r * 2 ≡ 1 * 1 = subst (λ v. count (λ j. cond (eqb j k) 1 (g j)) r * v ≡ 1 * 1) e (c ∙ ap (λ v. v * 1) o) in
    omega arith

ones : (r : ℕ) → count (λ _. 1) r ≡ 1
ones zero = refl
ones (suc r) = ap (λ v. v * 1) (ones r)

-- 2 for one number, and 1 for all others
mark : ℕ → ℕ → ℕ
mark v x = cond (eqb x v) 2 1

marked : (v : ℕ) → mark v v ≡ 2
unfolding mark
marked v = cond-true (eqb v v) 2 1 (eq-eqb v v refl)

-- an order that has each axis has nothing else
pub onto_within : (order : ℕ → ℕ) (r k : ℕ) → Onto order r → k < r → order k < r
unfolding mark
onto_within order r k s h =
    ⊎_elim
    (λ (l : order k < r). l)
    (λ (l : r ≤ order k).
    let none : count (mark (order k)) r ≡ 1 = count_same (mark (order k)) (λ _. 1) r (λ x m. cond-false (eqb x (order k)) 2 1 (ne_eqb x (order k) (λ q. omega arith))) ∙ ones r in
    absurd (twice (λ j. mark (order k) (order j)) k r h (marked (order k)) (count_permuted (mark (order k)) order r s ∙ none)))
    (cases_lt (order k) r)

-- and has it once
pub onto_once : (order : ℕ → ℕ) (r a b : ℕ) → Onto order r → a < r → b < r → order b ≡ order a → b ≡ a
unfolding mark
onto_once order r a b s la lb e =
    ⊎_elim
    (λ (q : b ≡ a). q)
    (λ (q : b ≡ a → ⊥).
    let g : ℕ → ℕ = λ j. mark (order a) (order j) in
    let two : count (mark (order a)) r * 1 ≡ count (λ _. 1) r * 2 = changed (λ _. 1) (order a) 2 r (onto_within order r a s la) in
    let all : count g r ≡ 2 = let p = count_permuted (mark (order a)) order r s in let o = ones r in omega arith in
    let c = changed g a 1 r la in
    let one : count (λ j. cond (eqb j a) 1 (g j)) r ≡ 1 = let m : count (λ j. cond (eqb j a) 1 (g j)) r * 2 ≡ 2 * 1 = subst (λ v. count (λ j. cond (eqb j a) 1 (g j)) r * v ≡ 2 * 1) (marked (order a)) (c ∙ ap (λ v. v * 1) all) in omega arith in
    absurd (twice (λ j. cond (eqb j a) 1 (g j)) b r lb (cond-false (eqb b a) 1 (g b) (ne_eqb b a q) ∙ ap (mark (order a)) e ∙ marked (order a)) one))
    (cases_eq b a)

-- so it has each axis in one way
one_way : (order : ℕ → ℕ) (r a : ℕ) (p q : (k : ℕ) × (k < r) × (order k ≡ a)) → p.0 ≡ q.0 → p ≡ q
one_way order r a p q e = λ i. (e i, is_prop→PathP (λ j. e j < r) (λ j. hlevel props) p.1 q.1 i, is_prop→PathP (λ j. order (e j) ≡ a) (λ j. hlevel props) p.2 q.2 i)

pub Onto-prop : (order : ℕ → ℕ) (r : ℕ) → IsProp (Onto order r)
Onto-prop order r o u =
    fun_ext (λ a. fun_ext (λ l. let p = o a l in let q = u a l in one_way order r a p q (onto_once order r q.0 p.0 o q.1 p.1 (p.2 ∙ sym q.2))))

-- fewer axes, no more elements
pub count_le : (lens : ℕ → ℕ) (a r : ℕ) → a ≤ r → 1 ≤ count lens r → (1 ≤ count lens a) × (count lens a ≤ count lens r)
count_le lens a zero h k = let e : 0 ≡ a = omega arith in subst (λ v. (1 ≤ count lens v) × (count lens v ≤ 1)) e (omega arith, omega arith)
count_le lens a (suc r) h k =
    ⊎_elim
    (λ (e : a ≡ suc r). subst (λ v. (1 ≤ count lens v) × (count lens v ≤ count lens (suc r))) (sym e) (k, omega arith))
    (λ (e : a ≡ suc r → ⊥).
    let p = positive (count lens r) (lens r) k in
    let i = count_le lens a r (omega arith) p.0 in
    let m = mul-le (count lens r) 1 (count lens r) (lens r) (omega arith) p.1 in
    (i.0, omega arith))
    (cases_eq a (suc r))

pub indexed : Indexed
indexed lens r n h = (λ a l. index_below lens r n a h l, offset-index lens r n h)

pub numbered : Numbered
numbered lens i r h = (offset_below lens i r h, λ a l. index-offset lens i r a h l)
