use Rattle.std.proofs.Common.{◌≡◌, ◌++◌, length, vec_items}
use Rattle.std.specs.Option.{option_map}
use Rattle.text.specs.Hex.{hex_bytes}
use Rattle.text.proofs.hex.pairs.Given as goal

abbrev pub invariant-loop-left : goal.invariant-loop-left
invariant-loop-left l = option_map (λ ys. vec_items l.bytes ++ ys) (hex_bytes l.left) ≡ hex_bytes l.word

abbrev pub decreases-loop-left : goal.decreases-loop-left
decreases-loop-left l = length l.left
