use Rattle.std.proofs.Common.{◌-◌, ◌<◌, length, Err, sym, refl, ap, ◌∙◌, subst, arith}
use Rattle.std.proofs.lemmas.Result.{err_from_is_err_and}
use Rattle.form.specs.Refusals.{told}
use Rattle.stage.specs.Calls.{Undone}
use Rattle.pair.proofs.PairCalls.{Halves, undone_outer, undone_inner, undone_failed, undone_across, inner_taken}
use Rattle.stage.proofs.Undoing.{named_below, moved}
use Rattle.pair.proofs.PairCodec.undo.Given.{Over}
use Rattle.pair.proofs.PairCodec.undo.Goals as goal
use Rattle.pair.proofs.PairCodec.undo.Goals.{In_ok-middle, else-from-seam, then-from-seam+in_ok-undo}

-- both halves take the form, as every goal here has it
halves : (g : Over) (c : In_ok-middle g) → Halves g.I.Decoded.Representation.weight g.I.Encoded.Representation.weight g.O.Encoded.Representation.weight (g.O.Codec.meaning c.args.self.now.outer) (g.I.Codec.meaning c.args.self.now.inner) c.args.form.now c.in_ok-middle.middle
halves g c = record {
  outer_laws = g.met.O.Codec.lawful c.args.self.now.outer;
  inner_laws = g.met.I.Codec.lawful c.args.self.now.inner;
  taken = c.in_ok-middle.ensures;
}

pub returns-then-to-seam : goal.returns-then-to-seam
returns-then-to-seam g c =
    undone_outer (halves g (goal.at.returns-then-to-seam g c).In_ok-middle)
    c.args.from c.args.to c.args.checks c.args.buf.now c.undo.new.buf (length c.args.scratch.now) c.undo.result
    (omega arith) c.undo.ensures

pub returns-in_err-undo : goal.returns-in_err-undo
returns-in_err-undo g c =
    let p = err_from_is_err_and c.from_residual-in_err-undo.result c.from_residual-in_err-undo.ensures.1 in
    undone_failed (halves g (goal.at.returns-in_err-undo g c).In_ok-middle)
    c.args.from c.args.to c.args.checks c.args.buf.now c.undo-then-from-seam.new.buf c.undo-then-from-seam.new.buf
    (length c.args.scratch.now) (length c.args.scratch.now) c.last_place-seam.result (omega arith) (omega arith) (omega arith) (omega arith)
    c.from_residual-in_err-undo.result c.undo-then-from-seam.result c.in_err-undo.field-0.0 c.in_err-undo.was (ap told (p.1 ∙ ap Err p.2))
    c.undo-then-from-seam.ensures

pub shift-requires : goal.shift-requires
shift-requires g c = λ k e.
    let b : k < c.args.to - c.last_place-seam.result =
    named_below g.I.Decoded.Representation.weight (g.I.Codec.meaning c.args.self.now.inner) c.args.form.now
    (inner_taken (halves g (goal.at.shift-requires g c).In_ok-middle))
    c.saturating_sub-start.result (c.args.to - c.last_place-seam.result) c.args.checks c.if-from-seam.buf c.undo-undone.new.buf (length c.if-from-seam.scratch) c.undo-undone.result k c.undo-undone.ensures e in
    omega arith

pub returns : goal.returns
returns g c =
    elim c.if-from-seam.branch [
      | else-from-seam w ↦
          undone_inner (halves g (goal.at.returns g c).In_ok-middle)
          c.args.from c.args.to c.args.checks c.args.buf.now c.undo-undone.new.buf (length c.args.scratch.now) c.shift.result
          c.last_place-seam.result c.undo-undone.result (omega arith) w.if-from-seam.false (omega arith) (omega arith) c.shift.ensures
          (moved g.I.Decoded.Representation.weight (g.I.Codec.meaning c.args.self.now.inner) c.args.form.now
          (c.args.from - c.last_place-seam.result) c.saturating_sub-start.result (c.args.to - c.last_place-seam.result) c.args.checks
          c.args.buf.now c.if-from-seam.buf c.undo-undone.new.buf (length c.args.scratch.now) (length c.if-from-seam.scratch) c.undo-undone.result
          c.saturating_sub-start.ensures w.buf-is (ap length w.scratch-is) c.undo-undone.ensures)
      | then-from-seam+in_ok-undo w ↦
          undone_across (halves g (goal.at.returns g c).In_ok-middle)
          c.args.from c.args.to c.args.checks c.args.buf.now c.if-from-seam.buf c.undo-undone.new.buf
          (length c.args.scratch.now) (length c.if-from-seam.scratch) c.last_place-seam.result (omega arith) (omega arith) (omega arith) (omega arith)
          c.shift.result w.undo-then-from-seam.result c.undo-undone.result w.in_ok-undo.field-0 w.in_ok-undo.was
          c.if-from-seam.auto.buf c.if-from-seam.auto.scratch c.shift.ensures
          (subst (λ v. Undone g.I.Encoded.Representation.weight (g.O.Codec.meaning c.args.self.now.outer) c.in_ok-middle.middle c.args.from c.last_place-seam.result c.args.checks c.args.buf.now v (length c.args.scratch.now) w.undo-then-from-seam.result) (sym w.buf-is) w.undo-then-from-seam.ensures)
          (moved g.I.Decoded.Representation.weight (g.I.Codec.meaning c.args.self.now.inner) c.args.form.now
          0 c.saturating_sub-start.result (c.args.to - c.last_place-seam.result) c.args.checks
          c.if-from-seam.buf c.if-from-seam.buf c.undo-undone.new.buf (length c.if-from-seam.scratch) (length c.if-from-seam.scratch) c.undo-undone.result
          (omega (arith, c.saturating_sub-start.ensures)) refl refl c.undo-undone.ensures)
    ]
