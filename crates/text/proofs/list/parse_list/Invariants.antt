use Rattle.std.proofs.Common.{◌≡◌, ◌++◌, drop, map, vec_items}
use Rattle.std.specs.Option.{option_map}
use Rattle.text.specs.List.{all_said}
use Rattle.text.proofs.list.parse_list.Given as goal

abbrev pub invariant-loop-part : goal.invariant-loop-part
invariant-loop-part g l =
    option_map (λ said. map g.T.FromWord.said (vec_items l.values) ++ said) (all_said g.T.FromWord.says (map (λ part. part.now) (drop l.part-index l.part-items))) ≡
    all_said g.T.FromWord.says (map (λ part. part.now) l.part-items)
