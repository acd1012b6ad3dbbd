use Rattle.std.proofs.Common.{not, sym, ◌∙◌, rules, tests}
use Rattle.std.proofs.lemmas.List.{take_rest}
use Rattle.std.proofs.lemmas.Iterator.{YieldsList-from_slice}
use Rattle.std.proofs.lemmas.Iterator.Search.{position_from_yields_List}
use Rattle.text.proofs.Fronts.{all_blank, word_stands}
use Rattle.text.specs.Words.{blank}
use Rattle.text.proofs.words.next_word.Goals as goal

pub returns-in_err-start : goal.returns-in_err-start
returns-in_err-start c =
    let at = position_from_yields_List (λ b. not (blank b)) _ _ c.position.result c.position.ensures.ran (YieldsList-from_slice c.args.line.now cc) (λ x b q k. search (rules, tests)) in
    let all = all_blank c.args.line.now (sym c.in_err-start.was ∙ at) in
    search rules

pub returns : goal.returns
returns c =
    let at = position_from_yields_List (λ b. not (blank b)) _ _ c.position.result c.position.ensures.ran (YieldsList-from_slice c.args.line.now cc) (λ x b q k. search (rules, tests)) in
    let next = position_from_yields_List blank _ _ c.position-2.result c.position-2.ensures.ran (YieldsList-from_slice _ c.iter-2.ensures.rest) (λ x b q k. search (rules, tests)) in
    let word = word_stands c.args.line.now _ c.in_ok-start.start c.position-2.result (sym c.in_ok-start.was ∙ at) (take_rest c.args.line.now c.in_ok-start.start) next in
    rw (c.split_at.ensures.front, c.split_at.ensures.back, c.unwrap_or-end.ensures) word
