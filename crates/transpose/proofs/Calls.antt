-- What encoding and decoding in place leave.
use Rattle.std.proofs.Common.{◌≡◌, ℕ, ◌<◌, Bool, List, take, None, Ok, Result, sym, ap, ◌∙◌, subst}
use Rattle.form.specs.declared.array_form.Form.{Form}
use Rattle.form.specs.declared.fault.Fault.{Fault}
use Rattle.form.specs.Forms.{element_size}
use Rattle.form.specs.Refusals.{Refusal, unless, only_if}
use Rattle.form.specs.Shapes.{on}
use Rattle.stage.specs.Arrays.{array_bytes}
use Rattle.stage.specs.Calls.{InPlace}
use Rattle.stage.specs.Single.{Coding}
use Rattle.stage.specs.Gathers.{gathered, by_element}
use Rattle.stage.proofs.Refusing.{unless_ok}
use Rattle.axes.specs.Axes.{place, seat, Follows}
use Rattle.axes.proofs.Seats.{seat_same}
use Rattle.transpose.specs.declared.transpose_codec.TransposeCodec.{TransposeCodec}
use Rattle.transpose.specs.Transpose.{Permutes, new_lengths, target, transposing}
use Rattle.transpose.specs.Transposed.{not_refused, out, home, same_volume, turned, turned_is}

-- the codec answered the new form g for f
module _ (t : TransposeCodec) (f g : Form) (r : ◌≡◌ {A = Result Form Refusal} (Ok g) (unless ((transposing t.order t.dims).refusal f) (Ok ((transposing t.order t.dims).coded f)))) where
  abbrev coding : Coding Form Form
  coding = transposing t.order t.dims

  abbrev order : List ℕ
  order = t.order

  taken : coding.refusal f ≡ None
  taken = (unless_ok (coding.refusal f) (Ok (coding.coded f)) g r).0

  pub dims_same : t.dims ≡ f.dims
  dims_same = not_refused order t.dims f taken

  ordered : Permutes (on order) f.dims
  ordered = subst (Permutes (on order)) dims_same t.permutes

  new_is : g ≡ turned order f ordered
  new_is = (let e = (unless_ok (coding.refusal f) (Ok (coding.coded f)) g r).1 in cc) ∙ sym (turned_is order f ordered)

  -- so nothing refuses before the room
  answered : (b : Bool) (n m : ℕ) (x y behind : List ℕ) (a : Result ℕ Fault) → n ≡ m → x ≡ y
      → InPlace (only_if b 14 (Ok n)) x behind a
      → InPlace (unless (coding.refusal f) (only_if b 14 (Ok m))) y behind a
  answered b n m x y behind a e q h = record {
    answer_is = h.answer_is ∙ ap (λ v. only_if b 14 (Ok v)) e ∙ sym (ap (λ o. unless o (only_if b 14 (Ok m))) taken);
    bytes = λ k w. h.bytes k w ∙ q;
  }

  pub dims_home : t.dims ≡ g.dims
  dims_home = dims_same ∙ sym (ap (λ (h : Form). h.dims) new_is)

  pub follows_home : Follows (on g.lengths) (on f.lengths) (on order) g.dims
  follows_home = subst (λ (h : Form). Follows (on h.lengths) (on f.lengths) (on order) h.dims) (sym new_is) (home order f ordered)

  pub decoded_in_place : (b : Bool) (before behind : List ℕ) (a : Result ℕ Fault)
      → InPlace (only_if b 14 (Ok (array_bytes g))) (gathered (by_element (seat (on g.lengths) (on f.lengths) (on order) g.dims) (element_size g)) (array_bytes g) (take (array_bytes g) before)) behind a
      → InPlace (unless (coding.refusal f) (only_if b 14 (Ok (array_bytes f)))) (coding.decoded f (take (array_bytes (coding.coded f)) before)) behind a
  decoded_in_place b before behind a =
      let same = same_volume order f ordered in
      answered b (array_bytes g) (array_bytes f) _ _ behind a (ap array_bytes new_is ∙ same)
      (ap (λ (h : Form). gathered (by_element (seat (on h.lengths) (on f.lengths) (on order) h.dims) (element_size h)) (array_bytes h) (take (array_bytes h) before)) new_is
      ∙ ap (λ n. gathered (by_element (target order f) (element_size f)) n (take (array_bytes (turned order f ordered)) before)) same
      ∙ ap (λ (h : Form). coding.decoded f (take (array_bytes h) before)) (turned_is order f ordered))

  module _ (ps : List ℕ) (k : (a : ℕ) → a < t.dims → on ps a ≡ place (on order) t.dims a) where
    placed : (a : ℕ) → a < f.dims → on ps a ≡ place (on order) f.dims a
    placed = subst (λ n. (a : ℕ) → a < n → on ps a ≡ place (on order) n a) dims_same k

    pub follows_out : Follows (on f.lengths) (on g.lengths) (on ps) f.dims
    follows_out a l =
        let o = out order f ordered a l in
        (subst (λ v. v < f.dims) (sym (placed a l)) o.0, ap (on g.lengths) (placed a l) ∙ ap (λ (h : Form). on h.lengths (place (on order) f.dims a)) new_is ∙ o.1)

    pub encoded_in_place : (b : Bool) (before behind : List ℕ) (a : Result ℕ Fault)
        → InPlace (only_if b 14 (Ok (array_bytes f))) (gathered (by_element (seat (on f.lengths) (on g.lengths) (on ps) f.dims) (element_size f)) (array_bytes f) (take (array_bytes f) before)) behind a
        → InPlace (unless (coding.refusal f) (only_if b 14 (Ok (array_bytes (coding.coded f))))) (coding.encoded f (take (array_bytes f) before)) behind a
    encoded_in_place b before behind a =
        answered b (array_bytes f) (array_bytes (coding.coded f)) _ _ behind a (sym (same_volume order f ordered) ∙ ap array_bytes (turned_is order f ordered))
        (ap (λ (h : Form). gathered (by_element (seat (on f.lengths) (on h.lengths) (on ps) f.dims) (element_size f)) (array_bytes f) (take (array_bytes f) before)) new_is
        ∙ ap (λ s. gathered (by_element s (element_size f)) (array_bytes f) (take (array_bytes f) before)) (seat_same (on f.lengths) (on (new_lengths order f)) (on ps) (place (on order) f.dims) f.dims placed))
