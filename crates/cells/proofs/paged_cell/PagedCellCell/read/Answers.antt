use Rattle.std.proofs.Common.{◌≡◌, ℕ, ◌+◌, ◌-◌, ◌*◌, ◌++◌, min, max, List, take, drop, slice_index_or, refl, sym, ap, subst, ◌∙◌, arith}
use Rattle.std.proofs.lemmas.List.{drop-drop, length-drop}
use borrow.Rule.Slice.PartMut.{put_mid}
use Rattle.cells.specs.Cells.{marked_count}
use Rattle.cells.specs.Pages.{gathered}
use Rattle.cells.proofs.Paging.{length_gathered, length_marked, part_marked, front_more, part_of_page}
use Rattle.cells.proofs.paged_cell.PagedCellCell.read.Goals as goal

pub loop-index-preserved : goal.loop-index-preserved
loop-index-preserved g c =
    let s = c.args.self.now in
    let G : List ℕ = gathered (g.B.Buffer.bytes s.buffer) s.pages.items in
    let old : List ℕ = c.args.output.now in
    let i : ℕ = c.loop-index.index in
    let o : ℕ = c.args.offset in
    let n = length_gathered (g.B.Buffer.bytes s.buffer) s.pages.items s.inside in
    let w = c.in_ok-count.ensures.inside in
    let u = ap marked_count (c.length.ensures ∙ length_marked s.mark G (omega (arith, s.marked))) in
    let e : ℕ = o + c.in_ok-count.count in
    let f : ℕ = c.max-from.result - o in
    let t : ℕ = c.min-to.result - o in
    let ef : min e (max o (256 * i)) - o ≡ f = omega (arith, c.max-from.ensures) in
    let et : t ≡ min e (max o (256 * (i + 1))) - o = omega (arith, c.min-to.ensures) in
    let was : c.loop-index.output ≡ take f (drop o G) ++ drop f old = subst (λ k. c.loop-index.output ≡ take k (drop o G) ++ drop k old) ef c.loop-index.invariant in
    let l = length-drop o G in
    let a : ℕ = c.page_start.result + (c.max-from.result - 256 * i) in
    let at : c.page_start.result ≡ 256 * slice_index_or s.pages.items i 0 = c.page_start.ensures.start ∙ ap (λ p. 256 * slice_index_or p i 0) c.as_slice-pages.ensures.value in
    let p : a + (c.min-to.result - c.max-from.result) - a ≡ t - f = omega (arith, c.max-from.ensures, c.min-to.ensures) in
    let q : a ≡ 256 * slice_index_or s.pages.items i 0 + (o + f - 256 * i) = omega (arith, c.max-from.ensures) in
    let there : c.copy_from_slice.new.self ≡ take (t - f) (drop f (drop o G)) =
    c.copy_from_slice.ensures.after ∙ ap (λ b. take (a + (c.min-to.result - c.max-from.result) - a) (drop a b)) c.as_slice-buffer.ensures
    ∙ ap (λ k. take k (drop a (g.B.Buffer.bytes s.buffer))) p ∙ ap (λ k. take (t - f) (drop k (g.B.Buffer.bytes s.buffer))) q
    ∙ sym (part_of_page (g.B.Buffer.bytes s.buffer) s.pages.items i (o + f) (t - f) s.inside (omega arith) (omega arith) (omega arith))
    ∙ ap (take (t - f)) (sym (drop-drop f o G)) in
    subst (λ k. put_mid f (t - f) c.loop-index.output c.copy_from_slice.new.self ≡ take k (drop o G) ++ drop k old) et
    (front_more (drop o G) old c.loop-index.output c.copy_from_slice.new.self f t (t - f) (omega arith) (omega arith) (omega arith) refl was there)

pub returns-clause-bytes : goal.returns-clause-bytes
returns-clause-bytes g c =
    let s = c.args.self.now in
    let G : List ℕ = gathered (g.B.Buffer.bytes s.buffer) s.pages.items in
    let n = length_gathered (g.B.Buffer.bytes s.buffer) s.pages.items s.inside in
    let w = c.in_ok-count.ensures.inside in
    let u = ap marked_count (c.length.ensures ∙ length_marked s.mark G (omega (arith, s.marked))) in
    let o : ℕ = c.args.offset in
    let e : min (o + c.in_ok-count.count) (max o (256 * c.loop-index.index)) - o ≡ c.in_ok-count.count = omega arith in
    subst (λ k. c.loop-index.output ≡ take k (drop o G) ++ drop k c.args.output.now) e c.loop-index.invariant
    ∙ ap (λ x. x ++ drop c.in_ok-count.count c.args.output.now) (ap (λ k. take k (drop o G)) w.0 ∙ sym (part_marked s.mark G o c.args.count (omega arith)))
