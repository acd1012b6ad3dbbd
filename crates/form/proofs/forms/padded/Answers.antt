use Rattle.form.proofs.Types.{size_within}
use Rattle.form.proofs.Shapes.{shape_sound}
use Rattle.form.proofs.forms.padded.Goals as goal

pub invariant_of-result : goal.invariant_of-result
invariant_of-result c =
    record { ok = rw c.copy_from_slice.ensures.after (shape_sound c.args.shape.now _ _ c.requires.named c.requires.fits (size_within c.args.data_type).0) }
