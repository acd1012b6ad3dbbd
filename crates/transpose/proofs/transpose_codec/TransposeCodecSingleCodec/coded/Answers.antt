use Rattle.std.proofs.Common.{◌≡◌, true, Ok, sym, ap, ◌∙◌, subst}
use Rattle.form.specs.Forms.{element_size}
use Rattle.form.specs.Shapes.{on, sound}
use Rattle.transpose.specs.Transpose.{Permutes}
use Rattle.transpose.specs.Transposed.{new_sound, coded_is, taken_form}
use Rattle.transpose.proofs.transpose_codec.TransposeCodecSingleCodec.coded.Goals as goal

pub invariant_of-result : goal.invariant_of-result
invariant_of-result c = record {
  ok =
      subst (λ v. sound v c.args.form.now.dims (element_size c.args.form.now) ≡ true) (sym c.new_lengths.ensures)
      (new_sound c.args.self.now.order c.args.form.now (subst (Permutes (on c.args.self.now.order)) c.if-self-form.false c.args.self.now.permutes));
}

pub returns : goal.returns
returns c =
    ap Ok (coded_is c.args.form.now c.new_lengths.result _ c.new_lengths.ensures _)
    ∙ taken_form c.args.self.now.order c.args.self.now.dims c.args.form.now c.if-self-form.false
