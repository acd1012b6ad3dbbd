use Rattle.std.proofs.Common.{sym, arith}
use Rattle.cells.specs.Pages.{gathered}
use Rattle.cells.proofs.Paging.{length_gathered, length_marked}
use Rattle.cells.proofs.paged_cell.PagedCellCell.length.Goals as goal

pub returns : goal.returns
returns g c =
    sym (length_marked c.args.self.now.mark (gathered (g.B.Buffer.bytes c.args.self.now.buffer) c.args.self.now.pages.items)
    (omega (arith, c.args.self.now.marked, length_gathered (g.B.Buffer.bytes c.args.self.now.buffer) c.args.self.now.pages.items c.args.self.now.inside)))
