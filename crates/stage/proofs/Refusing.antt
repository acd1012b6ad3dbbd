-- What an answer says of the refusals that stand before it.
use Rattle.std.proofs.Common.{◌≡◌, ℕ, Bool, true, false, Some, None, Ok, Option, Result, refl, arith}
use Rattle.form.specs.Refusals.{Refusal, unless, only_if}

-- an answer came, so nothing refused
pub unless_ok : {X : Type 0} (o : Option ℕ) (r : Result X Refusal) (x : X) → Ok x ≡ unless o r → (o ≡ None) × (Ok x ≡ r)
unless_ok None r x e = (refl, e)
unless_ok (Some n) r x e = let z : ◌≡◌ {A = ℕ} 0 1 = cc in absurd (omega arith)

pub only_if_ok : {X : Type 0} (b : Bool) (n : ℕ) (r : Result X Refusal) (x : X) → Ok x ≡ only_if b n r → (b ≡ true) × (Ok x ≡ r)
only_if_ok true n r x e = (refl, e)
only_if_ok false n r x e = let z : ◌≡◌ {A = ℕ} 0 1 = cc in absurd (omega arith)
