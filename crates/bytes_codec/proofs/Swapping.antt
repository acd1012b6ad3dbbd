-- What the loop keeps that reverses the elements of an array one by one.
use Rattle.std.proofs.Common.{◌≡◌, ℕ, ◌+◌, ◌-◌, ◌*◌, ◌<◌, ◌≤◌, List, ◌++◌, length, take, drop, reverse, sym, ap, ◌∙◌}
use Rattle.std.specs.List.{flat_map}
use Rattle.std.proofs.lemmas.List.{length-reverse}
use borrow.Rule.Slice.PartMut.{put_mid}
use Rattle.stage.proofs.Elements.{Writing, piece_length, writing_more}

-- element e too
pub swapped_next : (w n e : ℕ) (all x ys : List ℕ) → e < n → n * w ≤ length x → Writing w (flat_map reverse) n all e x
    → ys ≡ reverse (take ((e + 1) * w - e * w) (drop (e * w) x)) → Writing w (flat_map reverse) n all (e + 1) (put_mid (e * w) ((e + 1) * w - e * w) x ys)
swapped_next w n e all x ys h l g r =
    let t : List ℕ = take ((e + 1) * w - e * w) (drop (e * w) x) in
    writing_more w n e x ys h l (flat_map reverse) (flat_map reverse) all (ap length r ∙ length-reverse t ∙ piece_length w n e x ys h l)
    (λ ps. ap (λ a. a ++ flat_map reverse ps) (sym r)) g
