use Rattle.std.proofs.Common.{eqb, sym, ◌∙◌, rules, tests}
use Rattle.std.proofs.lemmas.List.{length-drop}
use Rattle.std.proofs.lemmas.Iterator.{YieldsList-from_slice}
use Rattle.std.proofs.lemmas.Iterator.Search.{position_from_yields_List}
use Rattle.text.proofs.Fronts.{part_then, part_all}
use Rattle.text.proofs.words.cut.Goals as goal

pub returns-in-Some : goal.returns-in-Some
returns-in-Some c =
    let at = position_from_yields_List (λ b. eqb b c.args.separator) _ _ c.position.result c.position.ensures.ran (YieldsList-from_slice c.args.word.now cc) (λ x b q k. search (rules, tests)) in
    let parts = part_then (λ b. eqb b c.args.separator) c.args.word.now c.in-Some.n (sym c.in-Some.is ∙ at) in
    record { before = parts.0; shorter = search (rules, length-drop); after = parts.1 }

pub returns-in-None : goal.returns-in-None
returns-in-None c =
    let at = position_from_yields_List (λ b. eqb b c.args.separator) _ _ c.position.result c.position.ensures.ran (YieldsList-from_slice c.args.word.now cc) (λ x b q k. search (rules, tests)) in
    let parts = part_all (λ b. eqb b c.args.separator) c.args.word.now (sym c.in-None.is ∙ at) in
    record { before = parts.0; shorter = search rules; after = parts.1 }
