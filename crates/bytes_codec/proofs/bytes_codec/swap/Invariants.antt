use Rattle.std.proofs.Common.{◌/◌, length, reverse}
use Rattle.std.specs.List.{flat_map}
use Rattle.stage.proofs.Elements.{Writing}
use Rattle.bytes_codec.specs.ByteOrder.{swapped}
use Rattle.bytes_codec.proofs.bytes_codec.swap.Given as goal

abbrev pub invariant-loop-e : goal.invariant-loop-e
invariant-loop-e l = let n = length l.initial.array / l.size in Writing l.size (flat_map reverse) n (swapped l.size n l.initial.array) l.e l.array
