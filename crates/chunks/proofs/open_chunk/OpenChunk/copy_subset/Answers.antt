use Rattle.std.proofs.Common.{rules, length, ◌*◌, ◌∙◌, sym, ap}
use Rattle.std.proofs.lemmas.List.{length-take-le}
use Rattle.form.specs.Forms.{shape_of, element_size}
use Rattle.form.specs.Shapes.{product}
use Rattle.chunks.specs.Seen.{number_of, seen}
use Rattle.chunks.proofs.ReadAnswers.{subset_told, subset_counted}
use Rattle.chunks.proofs.open_chunk.OpenChunk.copy_subset.Goals as goal

pub returns-clause-answer : goal.returns-clause-answer
returns-clause-answer g c =
    let x = c.args.self.now in
    let whole = length-take-le c.load_array-size.result c.load_array-size.new.work (search rules) ∙ c.load_array-size.ensures.exact ∙ ap (λ f. product (shape_of f) * element_size f) (sym c.form-form.ensures) in
    subset_told (seen x) c.args.subset.now.start.now c.args.subset.now.shape.now _ (length c.args.work.now) (length c.args.scratch.now) c.in_ok-count.count _ _ c.form-form.ensures (ap number_of c.in_ok-usable.ensures.open) c.in_ok-count.ensures c.if-count-output.false c.in_ok-room.ensures whole _ c.read.ensures.answer

pub returns-clause-counted : goal.returns-clause-counted
returns-clause-counted g c =
    let x = c.args.self.now in
    let whole = length-take-le c.load_array-size.result c.load_array-size.new.work (search rules) ∙ c.load_array-size.ensures.exact ∙ ap (λ f. product (shape_of f) * element_size f) (sym c.form-form.ensures) in
    subset_counted (seen x) c.args.subset.now.start.now c.args.subset.now.shape.now _ (length c.args.work.now) (length c.args.scratch.now) c.in_ok-count.count _ _ c.form-form.ensures (ap number_of c.in_ok-usable.ensures.open) c.in_ok-count.ensures c.if-count-output.false c.in_ok-room.ensures whole _ c.load_array-size.ensures.bytes _ c.read.ensures.answer
