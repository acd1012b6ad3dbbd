-- Pages of a buffer: how many bytes they have, and where each lies.
use Rattle.std.proofs.Common.{◌≡◌, ℕ, zero, suc, ◌+◌, ◌-◌, ◌*◌, ◌/◌, ◌%◌, ◌<◌, ◌≤◌, true, ◌==◌, List, [], ◌∷◌, ◌++◌, length, take, drop, slice_index_or, Option, Some, None, refl, sym, ap, ◌∙◌, arith, ⊎_elim}
use Rattle.std.proofs.lemmas.Bool.{and_parts, leb-true, cases_lt, both_ways, not-true, eq-eqb}
use Rattle.std.proofs.lemmas.List.Folds.{list_any_at}
use Rattle.std.proofs.lemmas.Slice.{take-put_mid, drop-put_mid, drop-append-drop}
use borrow.Rule.Slice.PartMut.{put_mid}
use Rattle.std.proofs.lemmas.List.{length-drop, length-take-le, length-append, get_or_append_left, get_or-append_right, get_or-take, get_or-drop, same_lists, take-append-drop, take-take, drop-take, take_at}
use Rattle.std.specs.Option.{option_map}
use Rattle.cells.specs.Cells.{marked, marked_count, bytes_of, part, overwritten, RestKept}
use Rattle.cells.proofs.Overwriting.{over_below, over_in, over_above, over_length}
use Rattle.cells.specs.Pages.{page, gathered, place, inside, distinct}

pub length_page : (buffer : List ℕ) (p : ℕ) → 256 * p + 256 ≤ length buffer → length (page buffer p) ≡ 256
length_page buffer p h = length-take-le 256 (drop (256 * p) buffer) (omega (arith, length-drop (256 * p) buffer))

pub length_gathered : (buffer pages : List ℕ) → inside (length buffer) pages ≡ true → length (gathered buffer pages) ≡ 256 * length pages
length_gathered buffer [] i = refl
length_gathered buffer (p ∷ ps) i =
    let q = and_parts _ _ i in
    let l = length_page buffer p (leb-true _ _ q.0) in
    let r = length_gathered buffer ps q.1 in
    omega (arith, length-append (page buffer p) (gathered buffer ps))

-- a page that is listed lies in the buffer
pub page_inside : (size : ℕ) (pages : List ℕ) (i d : ℕ) → inside size pages ≡ true → i < length pages → 256 * slice_index_or pages i d + 256 ≤ size
page_inside size [] i d h l = absurd (omega arith)
page_inside size (p ∷ ps) zero d h l = leb-true _ _ (and_parts _ _ h).0
page_inside size (p ∷ ps) (suc i) d h l = page_inside size ps i d (and_parts _ _ h).1 (omega arith)

-- byte m of the pages lies at its place
pub at_place : (buffer pages : List ℕ) (m d : ℕ) → inside (length buffer) pages ≡ true → m < 256 * length pages
    → slice_index_or (gathered buffer pages) m d ≡ slice_index_or buffer (place pages m) d
at_place buffer [] m d i h = absurd (omega arith)
at_place buffer (p ∷ ps) m d i h =
    let q = and_parts _ _ i in
    let l = length_page buffer p (leb-true _ _ q.0) in
    ⊎_elim
    (λ (lt : m < 256).
    let z : m / 256 ≡ 0 = omega arith in
    let y : m % 256 ≡ m = omega arith in
    get_or_append_left (page buffer p) (gathered buffer ps) d m (omega arith)
    ∙ get_or-take 256 (drop (256 * p) buffer) m d lt
    ∙ get_or-drop (256 * p) buffer m d
    ∙ rw (z, y) refl)
    (λ (ge : 256 ≤ m).
    let z : m / 256 ≡ suc ((m - 256) / 256) = omega arith in
    let y : m % 256 ≡ (m - 256) % 256 = omega arith in
    get_or-append_right (page buffer p) (gathered buffer ps) 256 m d l ge
    ∙ at_place buffer ps (m - 256) d q.1 (omega arith)
    ∙ rw (z, y) refl)
    (cases_lt m 256)

-- a mark counts the bytes of the value that it gives
pub length_marked : (mark : Option ℕ) (bytes : List ℕ) → marked_count mark ≤ length bytes → option_map length (marked mark bytes) ≡ mark
length_marked None bytes h = refl
length_marked (Some n) bytes h = ap Some (length-take-le n bytes h)

-- bytes inside the value that a mark gives
pub part_marked : (mark : Option ℕ) (bytes : List ℕ) (offset count : ℕ) → offset + count ≤ marked_count mark
    → part offset count (bytes_of (marked mark bytes)) ≡ take count (drop offset bytes)
part_marked None bytes offset count h =
    let z : count ≡ 0 = omega arith in
    rw z refl
part_marked (Some n) bytes offset count h =
    ap (take count) (sym (ap (λ k. drop offset (take k bytes)) (omega arith)) ∙ drop-take offset (n - offset) bytes)
    ∙ take-take count (n - offset) (drop offset bytes) (omega arith)

-- no two listed pages are the same
pub pages_apart : (pages : List ℕ) (i j d : ℕ) → distinct pages ≡ true → i < j → j < length pages → slice_index_or pages i d ≡ slice_index_or pages j d → ⊥
pages_apart [] i j d h l k e = absurd (omega arith)
pages_apart (p ∷ ps) zero zero d h l k e = absurd (omega arith)
pages_apart (p ∷ ps) zero (suc j) d h l k e =
    both_ways _ (not-true _ (and_parts _ _ h).0) (list_any_at (λ q. q == p) ps j d (omega arith) (eq-eqb _ _ (sym e)))
pages_apart (p ∷ ps) (suc i) zero d h l k e = absurd (omega arith)
pages_apart (p ∷ ps) (suc i) (suc j) d h l k e = pages_apart ps i j d (and_parts _ _ h).1 (omega arith) (omega arith) e

-- up to t instead of f elements of xs stand before what is left of an older list
pub front_more : (xs old now ys : List ℕ) (f t k : ℕ) → f ≤ t → t ≤ length xs → t ≤ length old → k ≡ t - f → now ≡ take f xs ++ drop f old
    → ys ≡ take k (drop f xs) → put_mid f k now ys ≡ take t xs ++ drop t old
front_more xs old now ys f t k h l m e n y =
    let a : length (take f xs) ≡ f = length-take-le f xs (omega arith) in
    let b : length ys ≡ k = ap length y ∙ length-take-le k (drop f xs) (omega (arith, length-drop f xs)) in
    let c : length now ≡ length old = ap length n ∙ length-append (take f xs) (drop f old) ∙ omega (arith, a, length-drop f old) in
    let g : f + k ≡ t = omega arith in
    let front : take t (put_mid f k now ys) ≡ take t xs =
    take-put_mid f k now ys t (omega arith) (omega arith)
    ∙ ap (λ u. u ++ ys) (ap (take f) n ∙ take_at (take f xs) (drop f old) f a ∙ sym (take-take f t xs h))
    ∙ ap (λ u. take f (take t xs) ++ u) (y ∙ sym (drop-take f k xs) ∙ ap (λ u. drop f (take u xs)) g)
    ∙ take-append-drop f (take t xs) in
    let behind : drop t (put_mid f k now ys) ≡ drop t old =
    drop-put_mid f k now ys t (omega arith) (omega arith) b ∙ ap (drop t) n ∙ drop-append-drop f old (take f xs) t h a in
    sym (take-append-drop t (put_mid f k now ys)) ∙ ap (λ u. u ++ drop t (put_mid f k now ys)) front ∙ ap (λ u. take t xs ++ u) behind

-- bytes of one page are bytes of the pages
pub part_of_page : (buffer pages : List ℕ) (i f k : ℕ) → inside (length buffer) pages ≡ true → i < length pages → 256 * i ≤ f → f + k ≤ 256 * i + 256
    → take k (drop f (gathered buffer pages)) ≡ take k (drop (256 * slice_index_or pages i 0 + (f - 256 * i)) buffer)
part_of_page buffer pages i f k h l a b =
    let g = length_gathered buffer pages h in
    let p = page_inside (length buffer) pages i 0 h l in
    let x : length (take k (drop f (gathered buffer pages))) ≡ k = length-take-le k _ (omega (arith, length-drop f (gathered buffer pages))) in
    let y : length (take k (drop (256 * slice_index_or pages i 0 + (f - 256 * i)) buffer)) ≡ k =
    length-take-le k _ (omega (arith, length-drop (256 * slice_index_or pages i 0 + (f - 256 * i)) buffer)) in
    same_lists _ _ (x ∙ sym y) (λ j d lt.
    let q : (f + j) / 256 ≡ i = omega arith in
    let r : 256 * i + (f + j) % 256 ≡ f + j = omega arith in
    let z : place pages (f + j) ≡ 256 * slice_index_or pages i 0 + (f - 256 * i) + j = ap (λ u. 256 * slice_index_or pages u 0 + (f + j) % 256) q ∙ omega arith in
    get_or-take k (drop f (gathered buffer pages)) j d (omega arith)
    ∙ get_or-drop f (gathered buffer pages) j d
    ∙ at_place buffer pages (f + j) d h (omega arith)
    ∙ ap (λ u. slice_index_or buffer u d) z
    ∙ sym (get_or-drop (256 * slice_index_or pages i 0 + (f - 256 * i)) buffer j d)
    ∙ sym (get_or-take k (drop (256 * slice_index_or pages i 0 + (f - 256 * i)) buffer) j d (omega arith)))

-- n bytes of a value stand at their places, and the rest of the buffer is as it was
pub record Written (pages bytes : List ℕ) (n : ℕ) (before now : List ℕ) : Type 0 where
  pub kept : RestKept (place pages) n before now
  pub there : (m d : ℕ) → m < n → slice_index_or now (place pages m) d ≡ slice_index_or bytes m d

pub none_written : (pages bytes before : List ℕ) → Written pages bytes 0 before before
none_written pages bytes before = record {
  kept = record { size = refl; rest = λ j o d. refl };
  there = λ m d h. absurd (omega arith);
}

-- those in page i too
module _ (pages bytes before now ys : List ℕ) (i e a : ℕ) (apart : distinct pages ≡ true) (h : inside (length now) pages ≡ true) (l : i < length pages)
    (u : 256 * i ≤ e) (v : e ≤ 256 * i + 256) (w : e ≤ length bytes) (r : a ≡ 256 * slice_index_or pages i 0) (y : ys ≡ take (e - 256 * i) (drop (256 * i) bytes)) where
  pub page_written : Written pages bytes (256 * i) before now → Written pages bytes e before (overwritten a ys now)
  page_written g =
      let p = page_inside (length now) pages i 0 h l in
      let b : length ys ≡ e - 256 * i = ap length y ∙ length-take-le (e - 256 * i) (drop (256 * i) bytes) (omega (arith, length-drop (256 * i) bytes)) in
      let at : (m : ℕ) → 256 * i ≤ m → m < e → place pages m ≡ a + (m - 256 * i) = λ m c x.
      (let q : m / 256 ≡ i = omega arith in ap (λ z. 256 * slice_index_or pages z 0 + m % 256) q ∙ omega arith) in
      record {
        kept = record {
          size = over_length a ys now (omega arith) ∙ g.kept.size;
          rest = λ j o d. ⊎_elim
              (λ (c : j < a). over_below a ys now (omega arith) j d c)
              (λ (c : a ≤ j). ⊎_elim
              (λ (x : j < a + (e - 256 * i)). absurd (o (256 * i + (j - a)) (omega arith) (at (256 * i + (j - a)) (omega arith) (omega arith) ∙ omega arith)))
              (λ (x : a + (e - 256 * i) ≤ j). over_above a ys now (omega arith) j d (omega arith))
              (cases_lt j (a + (e - 256 * i))))
              (cases_lt j a)
              ∙ g.kept.rest j (λ m c. o m (omega arith)) d;
        };
        there = λ m d c. ⊎_elim
            (λ (x : m < 256 * i).
            let q : m / 256 < i = omega arith in
            let ne : slice_index_or pages (m / 256) 0 ≡ slice_index_or pages i 0 → ⊥ = pages_apart pages (m / 256) i 0 apart q l in
            ⊎_elim
            (λ (z : place pages m < a). over_below a ys now (omega arith) (place pages m) d z)
            (λ (z : a ≤ place pages m). over_above a ys now (omega arith) (place pages m) d (omega arith))
            (cases_lt (place pages m) a)
            ∙ g.there m d x)
            (λ (x : 256 * i ≤ m).
            let z : place pages m ≡ a + (m - 256 * i) = at m x c in
            over_in a ys now (omega arith) (place pages m) d (omega arith) (omega arith)
            ∙ ap (λ t. slice_index_or ys t d) (omega arith)
            ∙ ap (λ t. slice_index_or t (m - 256 * i) d) y
            ∙ get_or-take (e - 256 * i) (drop (256 * i) bytes) (m - 256 * i) d (omega arith)
            ∙ get_or-drop (256 * i) bytes (m - 256 * i) d
            ∙ ap (λ t. slice_index_or bytes t d) (omega arith))
            (cases_lt m (256 * i));
      }

-- all bytes stand at their places, and are the value then
pub all_written : (pages bytes before now : List ℕ) → inside (length now) pages ≡ true → length bytes ≤ 256 * length pages
    → Written pages bytes (length bytes) before now → take (length bytes) (gathered now pages) ≡ bytes
all_written pages bytes before now h l g =
    let x : length (take (length bytes) (gathered now pages)) ≡ length bytes = length-take-le _ _ (omega (arith, length_gathered now pages h)) in
    same_lists _ _ x (λ m d c.
    get_or-take (length bytes) (gathered now pages) m d (omega arith)
    ∙ at_place now pages m d h (omega arith)
    ∙ g.there m d (omega arith))
