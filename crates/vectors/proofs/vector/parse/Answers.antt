use Rattle.std.proofs.Common.{vec_items, sym, refl, ap, ◌∙◌}
use Rattle.std.specs.Option.{option_map}
use Rattle.vectors.specs.Params.{said}
use Rattle.vectors.proofs.vector.parse.Goals as goal

pub returns-clause-said : goal.returns-clause-said
returns-clause-said c =
    let fields = c.in_ok-fields.fields in
    let words = rw c.in_ok-fields.ensures.ok_part at c.words.ensures in
    let kind = (c.in_ok-kind.ensures c.in_ok-kind.kind).0 refl in
    let params = sym c.in_ok-params.ensures ∙ ap (option_map said) c.in_ok-params-2.ensures.ok_part in
    let input = sym c.in_ok-input.ensures ∙ ap (option_map vec_items) c.in_ok-input-2.ensures.ok_part in
    (fields.params.now, fields.input.now, fields.output.now, words.0, rw kind words.1, params, input, sym c.in_ok-output.ensures.bytes, c.in_ok-output.ensures.refused)
