use Rattle.std.proofs.Common.{◌≡◌, ◌-◌, take, length, rules}
use Rattle.std.proofs.lemmas.List.{take-take}
use Rattle.std.proofs.lemmas.Slice.{overwrites}
use Rattle.fletcher32.proofs.fletcher32_codec.Fletcher32CodecSingleCodec.encode.Goals as goal

pub returns : goal.returns
returns c =
    let n : length (take c.in_ok-encoded.encoded c.args.buf.now) - 4 ≡ c.args.form.now = search rules in
    search (rules, overwrites, take-take)
