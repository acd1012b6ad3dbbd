-- The two tables of sizes agree. Assumes nothing.
use Rattle.std.proofs.Common.{◌<◌, ◌≤◌, arith}
use Rattle.form.specs.declared.data_type.DataType.{DataType}
use Rattle.form.specs.Types.{size_of}

pub size_within : (t : DataType) → (0 < size_of t) × (size_of t ≤ 8)
size_within t = grind arith
