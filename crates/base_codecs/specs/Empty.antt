-- The stage that changes nothing, and has no singles.
use Rattle.std.specs.Prelude.{ℕ, true, []}
use Rattle.stage.specs.Stage.{Stage, too_long}

abbrev pub empty_stage : {F : Type 0} → (F → ℕ) → Stage F F
empty_stage b = record {
  singles = [];
  refusal = λ f. too_long (b f);
  coded = λ f. f;
  size = λ f k. b f;
  encoded = λ f x. x;
  undone = λ f i j x. x;
  passes = λ f k x. true;
}
