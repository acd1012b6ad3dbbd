use Rattle.axes.proofs.Numbers as numbers
use Rattle.axes.proofs.c_order_stands.Goals as goal

pub returns : goal.returns
returns c = record { indexed = numbers.indexed; numbered = numbers.numbered }
