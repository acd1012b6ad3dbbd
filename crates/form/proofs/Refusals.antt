-- What the number of a refusal tells. Assumes nothing.
use Rattle.std.proofs.Common.{◌≡◌, ℕ, arith}
use Rattle.form.specs.declared.fault.Fault.{Fault}
use Rattle.form.specs.declared.fault.Fault.TheVariants.{Checksum}
use Rattle.form.specs.Refusals.{plain, refusal}

-- a refusal that names no single tells its number alone
pub told_plain : (e : Fault) → ((k : ℕ) → e ≡ Checksum k → ⊥) → refusal e ≡ plain (refusal e).number
told_plain e h = grind arith
