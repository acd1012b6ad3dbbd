use Rattle.std.proofs.Common.{◌≡◌, length, codes, sym, ap, arith, rules}
use Rattle.std.proofs.lemmas.Slice.Eq.{text_from_reads}
use Rattle.stage_names.specs.Names.{endian_of}
use Rattle.stage_names.proofs.word.endianness.Goals as goal

pub returns-in-little : goal.returns-in-little
returns-in-little c =
    let long : length c.args.word.now ≡ 6 = omega arith in
    let word : c.args.word.now ≡ codes "little" = text_from_reads c.args.word.now (codes "little") long (search rules) in
    sym (ap endian_of word)
