use Rattle.std.proofs.Common.{◌≡◌, ◌++◌, drop, vec_items}
use Rattle.chunkctl.specs.Shown.{more_text}
use Rattle.chunkctl.proofs.answer.push_list.Given as goal

abbrev pub invariant-loop-value : goal.invariant-loop-value
invariant-loop-value g l =
    vec_items l.out ++ more_text g.T.Pushed.text (drop l.value-index l.rest) ≡ vec_items l.initial.out ++ more_text g.T.Pushed.text l.rest
