use Rattle.std.proofs.Common.{◌≡◌, length}
use Rattle.cells.specs.Pages.{distinct}
use Rattle.cells.proofs.paged_cell.any_twice.Given as goal

abbrev pub invariant-loop-left : goal.invariant-loop-left
invariant-loop-left l = distinct l.left ≡ distinct l.pages

abbrev pub decreases-loop-left : goal.decreases-loop-left
decreases-loop-left l = length l.left
