use Rattle.std.proofs.Common.{◌≡◌, take, map, vec_items}
use Rattle.chunkctl.proofs.session.singles_by.Given as goal

abbrev pub invariant-loop-single : goal.invariant-loop-single
invariant-loop-single g l =
    map (λ s. s.0) (vec_items l.found) ≡ take l.single (g.C.Codec.meaning l.codec).singles
