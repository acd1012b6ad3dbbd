-- A codec that is made once there is room.
use Rattle.std.proofs.Common.{ℕ, Bool, true, false, None, Some, Ok, Option}
use Rattle.form.specs.Answers.{checked, Answers}

-- the tests that come first were passed, and then the codec was made
pub added : {X : Type 0} (ordered roomy : Bool) (own : Option ℕ) (Made : X → Type 0) (Added : Unit {0} → Type 0) (x : X) → Answers (checked ordered 5 (checked roomy 6 None)) (λ (_ : Unit {0}). Unit {0}) (Ok tt) → Answers own Made (Ok x) → (Made x → Added tt) → Answers (checked ordered 5 (checked roomy 6 own)) Added (Ok tt)
added true true None Made Added x room made add = add made
added true true (Some n) Made Added x room made add = absurd made
added true false own Made Added x room made add = absurd room
added false roomy own Made Added x room made add = absurd room
