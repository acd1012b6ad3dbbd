-- Differences and running sums undo each other, in every group.
use Rattle.std.specs.Prelude.{◌≡◌, ℕ, zero, suc, ◌+◌, ◌*◌, ◌^◌, ◌<◌, ◌≤◌, List, [], ◌∷◌, length, slice_index, refl}
use Rattle.std.proofs.Common.{ap, subst, ◌∙◌, add-one, arith}
use Rattle.stage.specs.Stage.{Bytes}
use Rattle.stage.specs.Elements.{elements, bytes}
use Rattle.groups.specs.Groups.{Operations, GroupLaws}
use Rattle.difference.specs.Difference.{first_stays, on_elements, lessened, differences, summed, sums}
use Rattle.difference.specs.ElementBytes.{Below, length-elements, length-bytes, elements-bytes, elements_below, bytes_elements}

-- F keeps how many elements there are, and that each has w bytes
pub record Keeps (w : ℕ) (F : ℕ → List ℕ → List ℕ) : Type 0 where
  pub many : (p : ℕ) (vs : List ℕ) → length (F p vs) ≡ length vs
  pub small : (p : ℕ) (vs : List ℕ) → p < 256 ^ w → Below (256 ^ w) vs → Below (256 ^ w) (F p vs)

-- G gives back what F made of elements of w bytes
abbrev pub Undoes : ℕ → (ℕ → List ℕ → List ℕ) → (ℕ → List ℕ → List ℕ) → Type 0
Undoes w G F = (p : ℕ) (vs : List ℕ) → p < 256 ^ w → Below (256 ^ w) vs → G p (F p vs) ≡ vs

pub first_of : (F : ℕ → List ℕ → List ℕ) (vs : List ℕ) → slice_index (first_stays F vs) 0 ≡ slice_index vs 0
first_of F [] = refl
first_of F (v ∷ vs) = refl

module _ (w : ℕ) (F : ℕ → List ℕ → List ℕ) (k : Keeps w F) where
  length-first_stays : (vs : List ℕ) → length (first_stays F vs) ≡ length vs
  length-first_stays [] = refl
  length-first_stays (v ∷ vs) = ap suc (k.many v vs)

  first_stays_below : (vs : List ℕ) → Below (256 ^ w) vs → Below (256 ^ w) (first_stays F vs)
  first_stays_below [] b = tt
  first_stays_below (v ∷ vs) b = (b.0, k.small v vs b.0 b.1)

  pub length-on_elements : (n : ℕ) (x : List ℕ) → length (on_elements (first_stays F) w n x) ≡ n * w
  length-on_elements n x =
      length-bytes w (first_stays F (elements w n x)) ∙ ap (λ j. j * w) (length-first_stays (elements w n x) ∙ length-elements w n x)

  -- the elements of the bytes that were made
  pub elements-on_elements : (n : ℕ) (x : List ℕ) → n * w ≤ length x → Bytes x → elements w n (on_elements (first_stays F) w n x) ≡ first_stays F (elements w n x)
  elements-on_elements n x h b =
      let vs : List ℕ = elements w n x in
      subst (λ j. elements w j (on_elements (first_stays F) w n x) ≡ first_stays F vs) (length-first_stays vs ∙ length-elements w n x)
      (elements-bytes w (first_stays F vs) (first_stays_below vs (elements_below w n x h b)))

  module _ (G : ℕ → List ℕ → List ℕ) (u : Undoes w G F) where
    first_stays_back : (vs : List ℕ) → Below (256 ^ w) vs → first_stays G (first_stays F vs) ≡ vs
    first_stays_back [] b = refl
    first_stays_back (v ∷ vs) b = ap (λ r. v ∷ r) (u v vs b.0 b.1)

    pub on_elements_back : (n : ℕ) (x : List ℕ) → length x ≡ n * w → Bytes x → on_elements (first_stays G) w n (on_elements (first_stays F) w n x) ≡ x
    on_elements_back n x h b =
        ap (λ r. bytes w (first_stays G r)) (elements-on_elements n x (omega arith) b)
        ∙ ap (bytes w) (first_stays_back (elements w n x) (elements_below w n x (omega arith) b))
        ∙ bytes_elements w n x h b

module _ (o : Operations) where
  lessened_at : (p : ℕ) (vs : List ℕ) (k : ℕ) → k < length vs → slice_index (lessened o p vs) k ≡ o.less (slice_index vs k) (slice_index (p ∷ vs) k)
  lessened_at p [] k h = absurd (omega arith)
  lessened_at p (v ∷ vs) zero h = refl
  lessened_at p (v ∷ vs) (suc k) h = lessened_at v vs k (omega arith)

  summed_at : (p : ℕ) (ds : List ℕ) (k : ℕ) → k < length ds → slice_index (summed o p ds) k ≡ o.plus (slice_index ds k) (slice_index (p ∷ summed o p ds) k)
  summed_at p [] k h = absurd (omega arith)
  summed_at p (d ∷ ds) zero h = refl
  summed_at p (d ∷ ds) (suc k) h = summed_at (o.plus d p) ds k (omega arith)

  -- each later element, by the one before it
  pub less_before : (vs : List ℕ) (k : ℕ) → k + 1 < length vs → slice_index (differences o vs) (k + 1) ≡ o.less (slice_index vs (k + 1)) (slice_index vs k)
  less_before [] k h = absurd (omega arith)
  less_before (v ∷ vs) k h = rw add-one (lessened_at v vs k (omega arith))

  pub plus_before : (ds : List ℕ) (k : ℕ) → k + 1 < length ds → slice_index (sums o ds) (k + 1) ≡ o.plus (slice_index ds (k + 1)) (slice_index (sums o ds) k)
  plus_before [] k h = absurd (omega arith)
  plus_before (d ∷ ds) k h = rw add-one (summed_at d ds k (omega arith))

module _ (o : Operations) (l : GroupLaws o) where
  abbrev M : ℕ
  M = 256 ^ o.width

  length-lessened : (p : ℕ) (vs : List ℕ) → length (lessened o p vs) ≡ length vs
  length-lessened p [] = refl
  length-lessened p (v ∷ vs) = ap suc (length-lessened v vs)

  length-summed : (p : ℕ) (ds : List ℕ) → length (summed o p ds) ≡ length ds
  length-summed p [] = refl
  length-summed p (d ∷ ds) = ap suc (length-summed (o.plus d p) ds)

  lessened_below : (p : ℕ) (vs : List ℕ) → p < M → Below M vs → Below M (lessened o p vs)
  lessened_below p [] h b = tt
  lessened_below p (v ∷ vs) h b = (l.less_fits v p b.0 h, lessened_below v vs b.0 b.1)

  summed_below : (p : ℕ) (ds : List ℕ) → p < M → Below M ds → Below M (summed o p ds)
  summed_below p [] h b = tt
  summed_below p (d ∷ ds) h b = let s = l.plus_fits d p b.0 h in (s, summed_below (o.plus d p) ds s b.1)

  pub lessened_keeps : Keeps o.width (lessened o)
  lessened_keeps = record { many = length-lessened; small = lessened_below }

  pub summed_keeps : Keeps o.width (summed o)
  summed_keeps = record { many = length-summed; small = summed_below }

  pub summed-lessened : Undoes o.width (summed o) (lessened o)
  summed-lessened p [] h b = refl
  summed-lessened p (v ∷ vs) h b = rw (l.less_plus v p b.0 h, summed-lessened v vs b.0 b.1)

  pub lessened-summed : Undoes o.width (lessened o) (summed o)
  lessened-summed p [] h b = refl
  lessened-summed p (d ∷ ds) h b = rw (l.plus_less d p b.0 h, lessened-summed (o.plus d p) ds (l.plus_fits d p b.0 h) b.1)
