use Rattle.std.proofs.Common.{◌∙◌, rules}
use Rattle.text.proofs.NumberLaws.{refuse_byte, refuse_large, digit_more, digits_all}
use Rattle.text.proofs.number.parse_number.Goals as goal

pub returns-then-not-is_ascii_digit : goal.returns-then-not-is_ascii_digit
returns-then-not-is_ascii_digit c =
    refuse_byte c.args.word.now c.loop-c.c-index c.loop-c-test.true c.if-not-is_ascii_digit.ensures.value c.loop-c.invariant.1

pub returns-in_err-checked_mul : goal.returns-in_err-checked_mul
returns-in_err-checked_mul c =
    c.from_residual.ensures ∙ refuse_large c.args.word.now c.loop-c.n c.loop-c.c-index c.loop-c-test.true (search rules) c.loop-c.invariant.2

pub returns-in_err-n : goal.returns-in_err-n
returns-in_err-n c =
    c.from_residual-in_err-n.ensures ∙ refuse_large c.args.word.now c.loop-c.n c.loop-c.c-index c.loop-c-test.true (search rules) c.loop-c.invariant.2

pub loop-c-preserved : goal.loop-c-preserved
loop-c-preserved c =
    let more = digit_more c.args.word.now c.loop-c.n c.in_ok-n.n c.loop-c.c-index c.loop-c-test.true c.if-not-is_ascii_digit.ensures.value (search rules) (c.loop-c.invariant.1, c.loop-c.invariant.2) in
    (search rules, more.0, more.1)

pub returns : goal.returns
returns c = digits_all c.args.word.now c.loop-c.n c.loop-c.c-index c.loop-c-test.false (search rules) c.loop-c.invariant.0 (c.loop-c.invariant.1, c.loop-c.invariant.2)
