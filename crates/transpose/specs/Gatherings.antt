-- What a gathering makes.
use Rattle.std.specs.Prelude.{ℕ, List}
use Rattle.form.specs.Forms.{element_size}
use Rattle.form.specs.Shapes.{on}
use Rattle.stage.specs.Arrays.{array_bytes}
use Rattle.stage.specs.Gathers.{gathered, by_element}
use Rattle.axes.specs.Axes.{seat}
use Rattle.transpose.specs.declared.gather.Gathering.{Gathering}

-- which element of `of` an element of `by` is
abbrev pub seat_in : Gathering → ℕ → ℕ
seat_in g = seat (on g.of.lengths) (on g.by.lengths) (on g.order.order) g.of.dims

-- the bytes of the array that is made of an array's
abbrev pub gathered_by : Gathering → List ℕ → List ℕ
gathered_by g x = gathered (by_element (seat_in g) (element_size g.of)) (array_bytes g.of) x
