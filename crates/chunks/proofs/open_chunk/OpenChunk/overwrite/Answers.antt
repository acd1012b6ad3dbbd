use Rattle.std.proofs.Common.{rules, length, ◌*◌, ◌∙◌, sym, ap, Some, Ok}
use Rattle.std.proofs.lemmas.List.{length-take-le}
use Rattle.form.specs.Refusals.{unless}
use Rattle.form.specs.Forms.{shape_of, element_size}
use Rattle.form.specs.Shapes.{product}
use Rattle.stage.specs.Arrays.{array_bytes}
use Rattle.chunks.specs.Views.{array_of, encoding}
use Rattle.chunks.specs.Calls.{storing}
use Rattle.chunks.specs.Seen.{coder, number_of, seen}
use Rattle.chunks.proofs.WriteAnswers.{write_due, write_ok, written_front}
use Rattle.chunks.proofs.open_chunk.OpenChunk.overwrite.Goals as goal

pub unwrap-requires : goal.unwrap-requires
unwrap-requires g c =
    let x = c.args.self.now in
    let whole = length-take-le c.load_array-size.result c.load_array-size.new.work (search rules) ∙ c.load_array-size.ensures.exact ∙ ap (λ f. product (shape_of f) * element_size f) (sym c.form-form.ensures) in
    write_ok (seen x) c.args.subset.now.start.now c.args.subset.now.shape.now c.args.elements.now (length c.args.work.now) (length c.args.scratch.now) c.in_ok-count.count _ _ c.form-form.ensures (ap number_of c.in_ok-usable.ensures.open) c.in_ok-count.ensures c.if-elements-count.false c.in_ok-room.ensures whole c.write.result c.write.ensures.answer

pub returns-clause-answer : goal.returns-clause-answer
returns-clause-answer g c =
    let x = c.args.self.now in
    let whole = length-take-le c.load_array-size.result c.load_array-size.new.work (search rules) ∙ c.load_array-size.ensures.exact ∙ ap (λ f. product (shape_of f) * element_size f) (sym c.form-form.ensures) in
    ap (λ q. unless {X = Unit} q (Ok tt)) (sym (write_due (seen x) c.args.subset.now.start.now c.args.subset.now.shape.now c.args.elements.now (length c.args.work.now) (length c.args.scratch.now) c.in_ok-count.count _ _ c.form-form.ensures (ap number_of c.in_ok-usable.ensures.open) c.in_ok-count.ensures c.if-elements-count.false c.in_ok-room.ensures whole))

pub returns-clause-changed : goal.returns-clause-changed
returns-clause-changed g c =
    let x = c.args.self.now in
    let whole = length-take-le c.load_array-size.result c.load_array-size.new.work (search rules) ∙ c.load_array-size.ensures.exact ∙ ap (λ f. product (shape_of f) * element_size f) (sym c.form-form.ensures) in
    let front = written_front (seen x) c.args.subset.now.start.now c.args.subset.now.shape.now c.args.elements.now (length c.args.work.now) (length c.args.scratch.now) c.in_ok-count.count _ _ c.form-form.ensures (ap number_of c.in_ok-usable.ensures.open) c.in_ok-count.ensures c.if-elements-count.false c.in_ok-room.ensures whole c.write.result c.write.ensures.answer c.write.new.array _ c.write.ensures.bytes (array_bytes x.chain.form) (sym (length-take-le c.load_array-size.result c.load_array-size.new.work (search rules) ∙ c.load_array-size.ensures.count)) _ c.load_array-size.ensures.bytes in
    c.store.ensures.stored ∙ ap (λ y. storing (seen x) (Some (encoding (coder x.chain) y))) front

pub returns-clause-returns : goal.returns-clause-returns
returns-clause-returns g c =
    let x = c.args.self.now in
    let whole = length-take-le c.load_array-size.result c.load_array-size.new.work (search rules) ∙ c.load_array-size.ensures.exact ∙ ap (λ f. product (shape_of f) * element_size f) (sym c.form-form.ensures) in
    let front = written_front (seen x) c.args.subset.now.start.now c.args.subset.now.shape.now c.args.elements.now (length c.args.work.now) (length c.args.scratch.now) c.in_ok-count.count _ _ c.form-form.ensures (ap number_of c.in_ok-usable.ensures.open) c.in_ok-count.ensures c.if-elements-count.false c.in_ok-room.ensures whole c.write.result c.write.ensures.answer c.write.new.array _ c.write.ensures.bytes (array_bytes x.chain.form) (sym (length-take-le c.load_array-size.result c.load_array-size.new.work (search rules) ∙ c.load_array-size.ensures.count)) _ c.load_array-size.ensures.bytes in
    ap (λ k. array_of (coder k) (g.C.Cell.value c.store.new.self.cell)) c.store.ensures.chain ∙ c.store.ensures.returns ∙ front
