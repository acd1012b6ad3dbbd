use Rattle.std.proofs.Common.{rules, ◌≡◌, ◌∙◌, arith}
use Rattle.stage.specs.Arrays.{element_count}
use Rattle.chunks.proofs.Loading.{filled_none, filled_more, filled_all}
use Rattle.chunks.proofs.reading.fill.Goals as goal

pub loop-i-init : goal.loop-i-init
loop-i-init c = filled_none c.fill_value-element.result.now c.args.work.now

pub loop-i-preserved : goal.loop-i-preserved
loop-i-preserved c = filled_more c.loop-i.i _ c.fill_value-element.result.now c.loop-i.work c.copy_from_slice.new.self c.loop-i.invariant c.copy_from_slice.ensures.after (search rules)

pub returns-clause-bytes : goal.returns-clause-bytes
returns-clause-bytes c =
    let all : c.loop-i.i ≡ c.elements-i-end.result = omega arith in
    filled_all c.loop-i.i (element_count c.args.form.now) _ c.bytes.result c.fill_value-element.result.now _ c.loop-i.work c.loop-i.invariant
    (all ∙ c.elements-i-end.ensures.counted) c.fill_value-element.ensures.value c.fill_value-element.ensures.len c.bytes.ensures.counted
