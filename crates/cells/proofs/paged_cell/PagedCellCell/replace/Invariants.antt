use Rattle.std.proofs.Common.{◌≡◌, ◌*◌, min, length}
use Rattle.cells.proofs.Paging.{Written}
use Rattle.cells.proofs.paged_cell.PagedCellCell.replace.Given as goal

-- the bytes for the earlier pages stand there
abbrev pub invariant-loop-index : goal.invariant-loop-index
invariant-loop-index g l =
    (g.B.Buffer.lender l.self.buffer ≡ g.B.Buffer.lender l.fn.self.buffer)
    × ((l.self.pages ≡ l.fn.self.pages)
    × Written l.self.pages.items l.bytes (min (length l.bytes) (256 * l.index)) (g.B.Buffer.bytes l.fn.self.buffer) (g.B.Buffer.bytes l.self.buffer))
