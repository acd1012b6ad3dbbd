use Rattle.std.proofs.Common.{length}
use Rattle.stage.specs.Calls.{roomy}
use Rattle.transpose.proofs.Calls.{dims_home, follows_home, decoded_in_place}
use Rattle.transpose.proofs.transpose_codec.TransposeCodecSingleCodec.decode.Goals as goal

pub invariant_of-gathering : goal.invariant_of-gathering
invariant_of-gathering c = record {
  dims = dims_home c.args.self.now c.args.form.now c.in_ok-new.new c.in_ok-new.ensures;
  follows = follows_home c.args.self.now c.args.form.now c.in_ok-new.new c.in_ok-new.ensures;
}

pub returns : goal.returns
returns c =
    decoded_in_place c.args.self.now c.args.form.now c.in_ok-new.new c.in_ok-new.ensures
    (roomy (length c.args.buf.now) (length c.args.scratch.now)) c.args.buf.now c.gather_in_place.new.buf c.gather_in_place.result c.gather_in_place.ensures
