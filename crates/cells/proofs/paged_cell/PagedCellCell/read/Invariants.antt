use Rattle.std.proofs.Common.{◌≡◌, ◌-◌, ◌*◌, ◌++◌, min, max, take, drop}
use Rattle.cells.specs.Pages.{gathered}
use Rattle.cells.proofs.paged_cell.PagedCellCell.read.Given as goal

-- what lies in the earlier pages is copied
abbrev pub invariant-loop-index : goal.invariant-loop-index
invariant-loop-index g l =
    l.output
    ≡ take (min l.end (max l.offset (256 * l.index)) - l.offset) (drop l.offset (gathered (g.B.Buffer.bytes l.self.buffer) l.self.pages.items))
    ++ drop (min l.end (max l.offset (256 * l.index)) - l.offset) l.fn.output
