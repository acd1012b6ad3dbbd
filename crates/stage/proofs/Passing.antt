-- Stages whose every test passes.
use Rattle.std.proofs.Common.{◌≡◌, ℕ, zero, suc, ◌-◌, Bool, true, false, List, Some, None, Option, refl, ap, ◌∙◌}
use Rattle.std.proofs.lemmas.Bool.{cond-true}
use Rattle.stage.specs.Stage.{Stage, first_false, failing, tested, answered, Unfailing}

none_false : (p : ℕ → Bool) → ((k : ℕ) → p k ≡ true) → (i n : ℕ) → first_false p i n ≡ None
none_false p h i zero = refl
none_false p h i (suc n) = cond-true (p i) (first_false p (suc i) n) (Some i) (h i) ∙ none_false p h (suc i) n

untested : (checks : Bool) (o : Option ℕ) → o ≡ None → tested checks o ≡ None
untested true o e = e
untested false o e = refl

pub unfailing : {F G : Type 0} (s : Stage F G) → ((f : F) (k : ℕ) (x : List ℕ) → s.passes f k x ≡ true) → Unfailing s
unfailing s h f i j checks x =
    ap (λ o. answered o (s.size f j)) (untested checks (failing s f i j x) (none_false (λ k. s.passes f k (s.undone f i k x)) (λ k. h f k (s.undone f i k x)) i (j - i)))
