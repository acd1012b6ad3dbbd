use Rattle.std.proofs.Common.{◌≡◌, ◌+◌, None, map, vec_items}
use Rattle.std.specs.List.{range_with_len}
use Rattle.chunkctl.proofs.session.lengths_by.Given as goal

abbrev pub invariant-loop-single : goal.invariant-loop-single
invariant-loop-single g l =
    let t = g.C.Codec.meaning l.codec in
    (t.refusal l.decoded ≡ None) × (vec_items l.lengths ≡ map (t.size l.decoded) (range_with_len 0 (l.single + 1)))
