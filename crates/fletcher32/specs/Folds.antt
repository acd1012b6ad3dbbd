-- A folded sum is small, and a checksum that is stored is loaded again.
use Rattle.std.specs.Prelude.{◌≡◌, ℕ, ◌<◌, List}
use Rattle.std.proofs.Common.{arith}
use Rattle.std.proofs.lemmas.Bool.Decides.{nat_tests}
use Rattle.std.proofs.lemmas.Grind.{common_steps}
use Rattle.std.proofs.lemmas.Nat.{from_le_bytes-to_le_bytes_4}
use Rattle.stage.specs.Stage.{Bytes}
use Rattle.fletcher32.specs.Fletcher32.{words, sum, running, folded, fletcher32, stored, loaded}

folded_small : (v : ℕ) → folded v < 65536
folded_small v = grind (arith, nat_tests)

-- a checksum has four bytes
pub Bytes-stored : (c : ℕ) → Bytes (stored c)
Bytes-stored c k h = grind (arith, common_steps)

pub loaded-stored : (x : List ℕ) → loaded (stored (fletcher32 x)) ≡ fletcher32 x
loaded-stored x =
    let hs = folded_small (sum (words x)) in
    let ht = folded_small (sum (running 0 (words x))) in
    from_le_bytes-to_le_bytes_4 (fletcher32 x) (omega arith)
