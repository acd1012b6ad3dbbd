use Rattle.std.proofs.Common.{◌∙◌, rules, tests}
use Rattle.std.proofs.lemmas.Iterator.{YieldsList-from_slice}
use Rattle.std.proofs.lemmas.Iterator.Search.{find_from_yields_List}
use Rattle.vectors.proofs.KindLaws.{named, is_named}
use Rattle.vectors.specs.declared.kind.TheConstants.{KINDS}
use Rattle.vectors.proofs.kind.KindTryFromRefSliceU8.try_from.Goals as goal

pub returns : goal.returns
returns c =
    let found = find_from_yields_List (is_named c.args.word.now) _ _ c.find.result c.find.ensures.ran (YieldsList-from_slice KINDS c.iter.ensures.rest) (λ x b q k. search (rules, tests)) in
    let copy = c.copied.ensures in
    rw c.ok_or.ensures.value (named c.args.word.now c.copied.result _ (copy ∙ found))
