use Rattle.std.proofs.Common.{◌≡◌, ℕ, List, [], ◌∷◌, length, None, vec_items, refl, sym, ap, ◌∙◌, arith}
use Rattle.std.proofs.lemmas.List.{length-map}
use Rattle.vectors.specs.Params.{pairs_say}
use Rattle.vectors.proofs.params.parse_params.Goals as goal
use Rattle.vectors.proofs.params.parse_params.Goals.{in_default-via-then-as_slice-lt1, in_default-via-else-as_slice-lt1+else-this-lt2+then-this-lt3, in_default-via-else-as_slice-lt1+else-this-lt2+else-this-lt3+else-this-lt4}

-- no other number of pairs says anything
none_say : (pairs : List (List ℕ)) → (length pairs ≡ 1 → ⊥) → (length pairs ≡ 3 → ⊥) → pairs_say pairs ≡ None
none_say [] a b = refl
none_say (p ∷ []) a b = absurd (a refl)
none_say (p ∷ (q ∷ [])) a b = refl
none_say (p ∷ (q ∷ (r ∷ []))) a b = absurd (b refl)
none_say (p ∷ (q ∷ (r ∷ (s ∷ ss)))) a b = refl

pub returns : goal.returns
returns c =
    let pairs = vec_items c.in_ok-parts.field-0 in
    let count = length-map pairs (λ pair. pair.now) in
    let other : (length pairs ≡ 1 → ⊥) × (length pairs ≡ 3 → ⊥) = elim c.in_default.branch [
      | in_default-via-then-as_slice-lt1 w ↦ (λ e. grind arith, λ e. grind arith)
      | in_default-via-else-as_slice-lt1+else-this-lt2+then-this-lt3 w ↦ (λ e. grind arith, λ e. grind arith)
      | in_default-via-else-as_slice-lt1+else-this-lt2+else-this-lt3+else-this-lt4 w ↦ (λ e. grind arith, λ e. grind arith)
    ] in
    sym (ap pairs_say (sym c.in_ok-parts.ensures) ∙ none_say _ (λ e. other.0 (sym count ∙ e)) (λ e. other.1 (sym count ∙ e)))
