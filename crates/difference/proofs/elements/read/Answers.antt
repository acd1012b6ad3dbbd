use Rattle.std.proofs.Common.{length, ap, ◌∙◌, arith}
use Rattle.stage.specs.Elements.{digits}
use Rattle.difference.specs.ElementBytes.{digits-little}
use Rattle.difference.proofs.Bytes.{from_eight}
use Rattle.difference.proofs.elements.read.Goals as goal

pub returns : goal.returns
returns c =
    let x = c.args.element.now in
    let v = c.from_le_bytes.ensures ∙ from_eight c.copy_from_slice.new.self x c.requires c.copy_from_slice.ensures.after in
    record { value = v; bytes = ap (digits (length x)) v ∙ digits-little x (λ k h. omega (arith, c.type_inv.element k)) }
