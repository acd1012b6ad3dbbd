use Rattle.std.proofs.Common.{drop, ◌++◌, arith, ◌∙◌, sym, ap}
use Rattle.codec_chain.proofs.Whole.{chain_laws}
use Rattle.chunks.specs.Caches.{cached_of}
use Rattle.chunks.specs.Views.{kept_at}
use Rattle.chunks.specs.Seen.{coder}
use Rattle.chunks.proofs.Loading.{cell_fits, kept_on}
use Rattle.chunks.proofs.open_chunk.OpenChunk.undo_to.Goals as goal

pub returns-then-at-place-clause-bytes : goal.returns-then-at-place-clause-bytes
returns-then-at-place-clause-bytes g c =
    let x = c.args.self.now in
    let l = chain_laws g.A.Codec.meaning g.B.Codec.meaning g.S.Codec.meaning g.met.A.Codec.lawful g.met.B.Codec.lawful g.met.S.Codec.lawful x.chain.chain.stages in
    let s = x.sound c.requires.open in
    kept_on (coder x.chain) l x.chain.taken _ _ _ c.in-Some-Bytes.kept.items _ _ _ s.whole
    (ap cached_of (sym c.in-Some-Bytes.is-1) ∙ s.kept_is ∙ ap (λ p. kept_at (coder x.chain) p (g.C.Cell.value x.cell)) (sym x.placed ∙ c.in-Some-Bytes.is-0))
    c.if-at-place.true c.requires.there (ap (λ y. y ++ drop c.len-count.result c.args.work.now) (c.copy_from_slice.ensures.after ∙ c.as_slice.ensures.value)) c.undo.ensures.bytes

pub load-requires : goal.load-requires
load-requires g c =
    let x = c.args.self.now in
    let l = chain_laws g.A.Codec.meaning g.B.Codec.meaning g.S.Codec.meaning g.met.A.Codec.lawful g.met.B.Codec.lawful g.met.S.Codec.lawful x.chain.chain.stages in
    cell_fits _ _ _ (x.sound c.requires.open).whole (l.bound x.chain.form 0 x.chain.taken (omega arith)) c.requires.work
