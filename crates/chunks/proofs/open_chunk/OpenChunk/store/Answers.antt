use Rattle.std.proofs.Common.{rules, ◌≡◌, ◌∙◌, ap, take, Some}
use Rattle.stage.specs.Arrays.{array_bytes}
use Rattle.codec_chain.proofs.Whole.{chain_laws}
use Rattle.chunks.specs.Views.{array_of, encoding}
use Rattle.chunks.specs.Seen.{coder}
use Rattle.chunks.proofs.Loading.{place_there}
use Rattle.chunks.proofs.WriteAnswers.{encoding_returns}
use Rattle.chunks.proofs.open_chunk.OpenChunk.store.Goals as goal

pub undo-kept-requires-clause-there : goal.undo-kept-requires-clause-there
undo-kept-requires-clause-there g c = place_there _ _ c.in-Some.place c.args.self.now.placed c.in-Some.is

pub returns-in-Some-clause-returns : goal.returns-in-Some-clause-returns
returns-in-Some-clause-returns g c =
    let x = c.args.self.now in
    let l = chain_laws g.A.Codec.meaning g.B.Codec.meaning g.S.Codec.meaning g.met.A.Codec.lawful g.met.B.Codec.lawful g.met.S.Codec.lawful x.chain.chain.stages in
    let v : g.C.Cell.value c.replace.new.self ≡ Some (encoding (coder x.chain) (take (array_bytes x.chain.form) c.args.work.now)) = search rules in
    ap (array_of (coder x.chain)) v ∙ encoding_returns (coder x.chain) l x.chain.taken c.args.work.now c.bytes_known.ensures c.requires.work

pub returns-in_default-clause-returns : goal.returns-in_default-clause-returns
returns-in_default-clause-returns g c =
    let x = c.args.self.now in
    let l = chain_laws g.A.Codec.meaning g.B.Codec.meaning g.S.Codec.meaning g.met.A.Codec.lawful g.met.B.Codec.lawful g.met.S.Codec.lawful x.chain.chain.stages in
    let v : g.C.Cell.value c.replace.new.self ≡ Some (encoding (coder x.chain) (take (array_bytes x.chain.form) c.args.work.now)) = search rules in
    ap (array_of (coder x.chain)) v ∙ encoding_returns (coder x.chain) l x.chain.taken c.args.work.now c.bytes_known.ensures c.requires.work
