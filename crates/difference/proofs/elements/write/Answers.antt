use Rattle.std.proofs.Common.{length, take, ap, ◌∙◌}
use Rattle.difference.proofs.Bytes.{to_eight}
use Rattle.difference.proofs.elements.write.Goals as goal

pub returns : goal.returns
returns c = c.copy_from_slice.ensures.after ∙ ap (take (length c.args.element.now)) c.to_le_bytes-bytes.ensures ∙ to_eight (length c.args.element.now) c.args.v c.requires
