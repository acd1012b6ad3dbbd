use Rattle.std.proofs.Common.{◌∙◌, ap, length}
use Rattle.stage.specs.Arrays.{array_bytes}
use Rattle.codec_chain.specs.Chain.{chain_stage}
use Rattle.codec_chain.proofs.Whole.{chain_laws}
use Rattle.chunks.specs.Seen.{coder}
use Rattle.chunks.proofs.Loading.{array_loaded}
use Rattle.chunks.proofs.open_chunk.OpenChunk.load_array.Goals as goal

pub returns-clause-bytes : goal.returns-clause-bytes
returns-clause-bytes g c =
    let x = c.args.self.now in
    let l = chain_laws g.A.Codec.meaning g.B.Codec.meaning g.S.Codec.meaning g.met.A.Codec.lawful g.met.B.Codec.lawful g.met.S.Codec.lawful x.chain.chain.stages in
    array_loaded (coder x.chain) l x.chain.taken _ c.in-Some.field-0 c.singles-place.result c.bytes.result c.undo_to.new.work c.in-Some.ensures.bytes c.in-Some.ensures.count
    (c.singles-place.ensures ∙ ap (λ k. length (chain_stage g.A.Codec.meaning g.B.Codec.meaning g.S.Codec.meaning k.stages).singles) c.chain.ensures)
    (c.bytes.ensures.counted ∙ ap array_bytes c.form-form.ensures)
