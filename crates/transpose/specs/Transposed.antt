-- The laws of the transposition, and where each element goes.
use Rattle.std.specs.Prelude.{◌≡◌, ℕ, ◌+◌, ◌*◌, ◌<◌, Bool, true, false, ◌&&◌, ◌⊎◌, List, Some, None, Ok, Result, ◌==◌, nat_eq, nat_le, nat_lt, slice_index, refl}
use Rattle.std.proofs.Common.{sym, ap, subst, ◌∙◌, inl, inr, zero-add, arith}
use Rattle.std.proofs.Math.Bool.{Bool-set}
use Rattle.std.proofs.Props.{props}
use Rattle.std.proofs.lemmas.List.FromFn.{get_or-map-range_with_len}
use Rattle.std.proofs.lemmas.Bool.{cond-true, eqb-true, eq-eqb, lt-ltb}
use Rattle.form.specs.declared.array_form.Form.{Form}
use Rattle.form.specs.Answers.{checked}
use Rattle.form.specs.Forms.{element_size}
use Rattle.form.specs.Refusals.{Refusal, unless}
use Rattle.form.specs.Shapes.{on, count, volume, sound}
use Rattle.form.proofs.Sized.{form_facts}
use Rattle.stage.specs.Arrays.{element_count, array_bytes, ArrayLaws}
use Rattle.stage.specs.Gathers.{gathered, by_element}
use Rattle.stage.specs.Single.{CodingLaws, single}
use Rattle.stage.proofs.Bytewise.{taken}
use Rattle.stage.proofs.Gathers.{inside, get_or-gathered, element_byte, elements_back, gathering_laws}
use Rattle.axes.specs.Axes.{offset, Within, place, Follows}
use Rattle.axes.proofs.Numbers.{Onto-prop, count_same, count_permuted, offset_same, offset_below}
use Rattle.axes.proofs.Seats.{place_below, found, seat_below, seat_at, seat_back}
use Rattle.transpose.specs.Transpose.{Permutes, formed, with_lengths, new_length, new_lengths, source, target, transposing, byte_at, Turns, Goes, Comes}

-- entries are an order in one way
pub Permutes-prop : (order : ℕ → ℕ) (d : ℕ) → IsProp (Permutes order d)
Permutes-prop order d = hlevel (Onto-prop, props)

-- the form that has the lengths is the form made of them
formed_is : (f : Form) (ls : List ℕ) (u : sound ls f.dims (element_size f) ≡ true) (b : Bool) (e : sound ls f.dims (element_size f) ≡ b) → ◌≡◌ {A = Form} (record { lengths = ls; dims = f.dims; data_type = f.data_type; fill = f.fill; ok = u }) (formed f ls b e)
formed_is f ls u true e = ap (λ v. record { lengths = ls; dims = f.dims; data_type = f.data_type; fill = f.fill; ok = v }) (Bool-set _ _ u e)
formed_is f ls u false e = let z : ◌≡◌ {A = ℕ} 0 1 = cc in absurd (omega arith)

pub coded_is : (f : Form) (ls ms : List ℕ) (q : ls ≡ ms) (u : sound ls f.dims (element_size f) ≡ true) → ◌≡◌ {A = Form} (record { lengths = ls; dims = f.dims; data_type = f.data_type; fill = f.fill; ok = u }) (with_lengths f ms)
coded_is f ls ms q u = formed_is f ls u (sound ls f.dims (element_size f)) refl ∙ ap (with_lengths f) q

pub not_refused : (order : List ℕ) (d : ℕ) (f : Form) → (transposing order d).refusal f ≡ None → d ≡ f.dims
not_refused order d f r = eqb-true d f.dims (taken (d == f.dims) None 9 r).0

pub taken_form : (order : List ℕ) (d : ℕ) (f : Form) → d ≡ f.dims → ◌≡◌ {A = Result Form Refusal} (Ok ((transposing order d).coded f)) (unless ((transposing order d).refusal f) (Ok ((transposing order d).coded f)))
taken_form order d f e = let b : nat_eq d f.dims ≡ true = eq-eqb d f.dims e in rw b

-- byte b of element e of c gathered elements, which is element m of x
element_of : (g : ℕ → ℕ) (c s e b m : ℕ) (x : List ℕ) → e < c → b < s → g e ≡ m → slice_index (gathered (by_element g s) (c * s) x) (e * s + b) ≡ slice_index x (m * s + b)
element_of g c s e b m x le lb q =
    get_or-gathered (by_element g s) (c * s) x (e * s + b) (inside e s b c le lb)
    ∙ ap (λ w. slice_index x w) (element_byte g s e b lb ∙ ap (λ w. w * s + b) q)

module _ (order : List ℕ) (f : Form) (p : Permutes (on order) f.dims) where
  abbrev d : ℕ
  d = f.dims

  abbrev old : ℕ → ℕ
  old = on f.lengths

  abbrev new : ℕ → ℕ
  new = on (new_lengths order f)

  abbrev o : ℕ → ℕ
  o = on order

  new_is : (a : ℕ) → a < d → new a ≡ old (o a)
  new_is a l =
      let h = (form_facts f).few in
      get_or-map-range_with_len (new_length order f) 0 4 a a 0 (omega arith) (zero-add a)
      ∙ cond-true (nat_lt a d) _ _ (lt-ltb a d l)

  -- the two directions
  pub out : Follows old new (place o d) d
  out a l = let b = place_below o d a (form_facts f).some in (b, new_is (place o d a) b ∙ ap old (found o d a p.met l))

  pub home : Follows new old o d
  home a l = (p.ranged a l, sym (new_is a l))

  same_count : count new d ≡ count old d
  same_count = count_same new (λ a. old (o a)) d new_is ∙ count_permuted old o d p.met

  pub same_volume : volume (new_lengths order f) d (element_size f) ≡ array_bytes f
  same_volume = ap (λ v. v * element_size f) same_count

  pub new_sound : sound (new_lengths order f) d (element_size f) ≡ true
  new_sound = ap (λ v. (nat_le 1 d && nat_le d 4) && (nat_le 1 v && nat_le v 4096)) same_volume ∙ f.ok

  -- the form with the new lengths, written out
  abbrev pub turned : Form
  turned = record { lengths = new_lengths order f; dims = f.dims; data_type = f.data_type; fill = f.fill; ok = new_sound }

  pub turned_is : turned ≡ with_lengths f (new_lengths order f)
  turned_is = formed_is f (new_lengths order f) new_sound (sound (new_lengths order f) d (element_size f)) refl

  coded_bytes : array_bytes (with_lengths f (new_lengths order f)) ≡ array_bytes f
  coded_bytes = ap array_bytes (sym turned_is) ∙ same_volume

  moved_back : (k : ℕ) → k < count old d → (target order f k < count old d) × (source order f (target order f k) ≡ k)
  moved_back k h = (
    let z = seat_below new old o d k home h in let y = same_count in omega arith,
    seat_back old new (place o d) o d k home (λ a m. ((out a m).0, found o d a p.met m)) h,
  )

  -- a byte of the element with the index i, in both arrays
  module _ (i : ℕ → ℕ) (b : ℕ) (v : Within i old d) (lb : b < element_size f) where
    abbrev j : ℕ → ℕ
    j a = i (o a)

    within_new : Within j new d
    within_new a l = subst (λ w. j a < w) (home a l).1 (v (o a) (home a l).0)

    gone : (x : List ℕ) → slice_index ((transposing order d).encoded f x) (byte_at turned j b) ≡ slice_index x (byte_at f i b)
    gone x =
        element_of (source order f) (element_count f) (element_size f) (offset new j d) b (offset old i d) x (subst (λ c. offset new j d < c) same_count (offset_below new j d within_new)) lb
        (seat_at old new (place o d) j d within_new (λ a l. (out a l).0) ∙ offset_same old _ i d (λ a l. ap i (found o d a p.met l)))

    came : (y : List ℕ) → slice_index ((transposing order d).decoded f y) (byte_at f i b) ≡ slice_index y (byte_at turned j b)
    came y =
        element_of (target order f) (element_count f) (element_size f) (offset old i d) b (offset new j d) y (offset_below old i d v) lb (seat_at new old o i d v p.ranged)

pub transposing_laws : (order : List ℕ) (d : ℕ) → Permutes (on order) d → CodingLaws array_bytes array_bytes (transposing order d)
transposing_laws order d p =
    gathering_laws array_bytes array_bytes (transposing order d) (λ f. by_element (source order f) (element_size f)) (λ f. by_element (target order f) (element_size f))
    (λ f x r. refl) (λ f x r. refl) (λ f x. refl)
    (λ f r.
    let q = subst (Permutes (on order)) (not_refused order d f r) p in
    record {
      few = (form_facts f).fits;
      same = coded_bytes order f q;
      back = elements_back (source order f) (target order f) (element_count f) (element_size f) (moved_back order f q);
    })

nine : (b : Bool) → (checked b 9 None ≡ None) ⊎ (checked b 9 None ≡ Some 9)
nine true = inl refl
nine false = inr refl

pub transposing_arrays : (order : List ℕ) (d : ℕ) → Permutes (on order) d → ArrayLaws (single array_bytes array_bytes (transposing order d))
transposing_arrays order d p = record {
  refuses_shape = λ f. nine (d == f.dims);
  count_kept = λ f r. let q = kept f r in ap element_count (sym (turned_is order f q)) ∙ same_count order f q;
  type_kept = λ f r. ap (λ (g : Form). g.data_type) (sym (turned_is order f (kept f r)));
  fill_kept = λ f r. ap (λ (g : Form). g.fill) (sym (turned_is order f (kept f r)));
  passes_all = λ f k x. refl;
}
  where
    kept : (f : Form) → (transposing order d).refusal f ≡ None → Permutes (on order) f.dims
    kept f r = subst (Permutes (on order)) (not_refused order d f r) p

pub turns : Turns
turns order d f p e =
    let q = subst (Permutes (on order)) e p in
    let t = turned_is order f q in (
      λ a l. ap (λ (g : Form). on g.lengths a) (sym t) ∙ new_is order f q a (subst (λ v. a < v) e l),
      ap (λ (g : Form). g.dims) (sym t),
      ap (λ (g : Form). g.data_type) (sym t),
      ap (λ (g : Form). g.fill) (sym t),
    )

pub goes : Goes
goes order d f x i b p e v lb =
    let q = subst (Permutes (on order)) e p in
    subst (λ (g : Form). slice_index ((transposing order d).encoded f x) (byte_at g (λ a. i (on order a)) b) ≡ slice_index x (byte_at f i b)) (turned_is order f q)
    (gone order f q i b (subst (Within i (on f.lengths)) e v) lb x)

pub comes : Comes
comes order d f y i b p e v lb =
    let q = subst (Permutes (on order)) e p in
    subst (λ (g : Form). slice_index ((transposing order d).decoded f y) (byte_at f i b) ≡ slice_index y (byte_at g (λ a. i (on order a)) b)) (turned_is order f q)
    (came order f q i b (subst (Within i (on f.lengths)) e v) lb y)
