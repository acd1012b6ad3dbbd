use Rattle.std.proofs.Common.{length, drop, ◌≡◌, ◌+◌, ◌-◌, ◌++◌, ◌∙◌, sym, ap, arith}
use Rattle.cells.specs.Cells.{part}
use Rattle.codec_chain.proofs.Whole.{chain_laws}
use Rattle.chunks.specs.Seen.{coder}
use Rattle.chunks.proofs.RangeAnswers.{present, range_copied, range_counted}
use Rattle.chunks.proofs.open_chunk.OpenChunk.copy_range.Goals as goal

pub returns-clause-bytes : goal.returns-clause-bytes
returns-clause-bytes g c =
    let x = c.args.self.now in
    let l = chain_laws g.A.Codec.meaning g.B.Codec.meaning g.S.Codec.meaning g.met.A.Codec.lawful g.met.B.Codec.lawful g.met.S.Codec.lawful x.chain.chain.stages in
    let s = x.sound c.in_ok-usable.ensures.open in
    let e = present (g.C.Cell.value x.cell) c.in-Some.field-0 (sym c.length.ensures ∙ c.in-Some.is) in
    let placed = c.bytes_place-place.ensures ∙ ap (λ k. length (g.S.Codec.meaning k.stages.outer).singles) c.chain.ensures in
    let p = range_copied (coder x.chain) l x.chain.taken (g.C.Cell.value x.cell) s.whole c.args.range c.bytes_place-place.result c.size-size.result c.in_ok-start.start c.in_ok-start.count c.undo_to.new.work placed c.size-size.ensures.value c.in_ok-start.ensures.answer c.in_ok-start.ensures.inside e.0 e.1 c.undo_to.result c.undo_to.ensures.bytes c.undo_to.ensures.count in
    ap (λ y. y ++ drop c.in_ok-start.count c.args.output.now) (c.copy_from_slice.ensures.after ∙ (let k : (c.in_ok-start.start + c.in_ok-start.count) - c.in_ok-start.start ≡ c.in_ok-start.count = omega arith in ap (λ m. part c.in_ok-start.start m c.undo_to.new.work) k) ∙ p)

pub returns-clause-counted : goal.returns-clause-counted
returns-clause-counted g c =
    let x = c.args.self.now in
    let l = chain_laws g.A.Codec.meaning g.B.Codec.meaning g.S.Codec.meaning g.met.A.Codec.lawful g.met.B.Codec.lawful g.met.S.Codec.lawful x.chain.chain.stages in
    let s = x.sound c.in_ok-usable.ensures.open in
    let e = present (g.C.Cell.value x.cell) c.in-Some.field-0 (sym c.length.ensures ∙ c.in-Some.is) in
    let placed = c.bytes_place-place.ensures ∙ ap (λ k. length (g.S.Codec.meaning k.stages.outer).singles) c.chain.ensures in
    range_counted (coder x.chain) l x.chain.taken (g.C.Cell.value x.cell) s.whole c.args.range c.bytes_place-place.result c.size-size.result c.in_ok-start.start c.in_ok-start.count c.undo_to.new.work placed c.size-size.ensures.value c.in_ok-start.ensures.answer c.in_ok-start.ensures.inside e.0 e.1
