use Rattle.std.proofs.Common.{◌≡◌, ℕ, ◌+◌, ◌-◌, ◌*◌, ◌<◌, min, List, length, take, drop, slice_index_or, Some, refl, sym, ap, subst, ◌∙◌, arith}
use Rattle.std.proofs.lemmas.List.{length-drop, length-take-le}
use Rattle.cells.specs.Cells.{overwritten}
use Rattle.cells.proofs.Overwriting.{put_fits}
use Rattle.cells.proofs.Paging.{Written, page_inside, page_written, all_written}
use Rattle.cells.proofs.paged_cell.PagedCellCell.replace.Goals as goal

pub loop-index-preserved : goal.loop-index-preserved
loop-index-preserved g c =
    let s = c.loop-index.self in
    let bytes : List ℕ = c.args.bytes.now in
    let before : List ℕ = (g.B.Buffer.bytes c.args.self.now.buffer) in
    let i : ℕ = c.loop-index.index in
    let d : 256 * i < length bytes = omega arith in
    let m : min (length bytes) (256 * i) ≡ 256 * i = omega arith in
    let w : Written s.pages.items bytes (256 * i) before (g.B.Buffer.bytes s.buffer) = subst (λ n. Written s.pages.items bytes n before (g.B.Buffer.bytes s.buffer)) m c.loop-index.invariant.1.1 in
    let q = ap (λ p. length p.items) c.loop-index.invariant.1.0 in
    let ys : List ℕ = take (c.min-end.result - 256 * i) (drop (256 * i) bytes) in
    let a : ℕ = c.page_start-at.result in
    let at : a ≡ 256 * slice_index_or s.pages.items i 0 = c.page_start-at.ensures.start ∙ ap (λ p. 256 * slice_index_or p i 0) c.as_slice-in-loop-index.ensures.value in
    let l : length ys ≡ c.min-end.result - 256 * i = length-take-le _ _ (omega (arith, length-drop (256 * i) bytes, c.min-end.ensures)) in
    let p = page_inside (length (g.B.Buffer.bytes s.buffer)) s.pages.items i 0 s.inside (omega arith) in
    let put : g.B.Buffer.bytes c.put.new.self ≡ overwritten a ys (g.B.Buffer.bytes s.buffer) = c.put.ensures.bytes ∙ put_fits a ys (g.B.Buffer.bytes s.buffer) (omega (arith, c.min-end.ensures)) in
    let e : c.min-end.result ≡ min (length bytes) (256 * (i + 1)) = omega (arith, c.min-end.ensures) in
    let new = page_written s.pages.items bytes before (g.B.Buffer.bytes s.buffer) ys i c.min-end.result a s.distinct s.inside
    (omega arith) (omega arith) (omega arith) (omega arith) at refl w in (
      c.put.ensures.lender ∙ c.loop-index.invariant.0,
      (
        c.loop-index.invariant.1.0,
        subst (λ n. Written s.pages.items bytes n before (g.B.Buffer.bytes c.put.new.self)) e
            (subst (Written s.pages.items bytes c.min-end.result before) (sym put) new),
      ),
    )

pub returns-clause-value : goal.returns-clause-value
returns-clause-value g c =
    let s = c.loop-index.self in
    let bytes : List ℕ = c.args.bytes.now in
    let before : List ℕ = (g.B.Buffer.bytes c.args.self.now.buffer) in
    let e : min (length bytes) (256 * c.loop-index.index) ≡ length bytes = omega arith in
    let w : Written s.pages.items bytes (length bytes) before (g.B.Buffer.bytes s.buffer) = subst (λ n. Written s.pages.items bytes n before (g.B.Buffer.bytes s.buffer)) e c.loop-index.invariant.1.1 in
    ap Some (all_written s.pages.items bytes before (g.B.Buffer.bytes s.buffer) s.inside (omega (arith, ap (λ p. length p.items) c.loop-index.invariant.1.0)) w)
