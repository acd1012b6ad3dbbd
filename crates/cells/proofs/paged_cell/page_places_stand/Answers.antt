use Rattle.cells.proofs.Paging.{at_place}
use Rattle.cells.proofs.paged_cell.page_places_stand.Goals as goal

pub returns : goal.returns
returns c = at_place
