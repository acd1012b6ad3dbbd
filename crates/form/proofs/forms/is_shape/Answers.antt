use Rattle.std.proofs.Common.{◌≡◌, ℕ, true, ◌&&◌, not, leb, eqb, length, List, [], ◌∷◌, refl, ap, ◌∙◌, arith, rules, tests}
use Rattle.std.proofs.lemmas.Bool.Decides.{nat_tests}
use Rattle.std.specs.List.{list_any, list_all}
use Rattle.form.proofs.forms.is_shape.Goals as goal

no_zero : (xs : List ℕ) → not (list_any (λ x. eqb x 0) xs) ≡ list_all (leb 1) xs
no_zero [] = refl
no_zero (x ∷ xs) = let h = no_zero xs in grind (arith, nat_tests)

pub returns-then-contains : goal.returns-then-contains
returns-then-contains c =
    let few : (leb 1 (length c.args.shape.now) && leb (length c.args.shape.now) 4) ≡ true = search (rules, tests) in
    rw few (ap not c.contains-then-contains.ensures.value ∙ no_zero c.args.shape.now)
