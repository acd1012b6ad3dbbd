-- A pair of stages over arrays, and one from arrays to bytes, keeps what its halves keep.
use Rattle.std.specs.Prelude.{◌≡◌, ℕ, true, ◌⊎◌, List, Some, None, Option, nat_lt}
use Rattle.std.specs.Option.{option_or}
use Rattle.std.proofs.Common.{◌∙◌, inl, inr, ⊎_elim}
use Rattle.std.proofs.lemmas.Bool.{cond_both}
use Rattle.form.specs.declared.array_form.Form.{Form}
use Rattle.stage.specs.Stage.{Stage}
use Rattle.stage.specs.Arrays.{ArrayLaws, ArrayToBytesLaws}
use Rattle.pair.specs.Compose.{seam, after}
use Rattle.pair.specs.Composition.{neither}

first_nine : (a b : Option ℕ) → (a ≡ None) ⊎ (a ≡ Some 9) → (b ≡ None) ⊎ (b ≡ Some 9) → (option_or a b ≡ None) ⊎ (option_or a b ≡ Some 9)
first_nine None b p q = q
first_nine (Some n) b p q = p

first_ten : (a b : Option ℕ) → (a ≡ None) ⊎ (a ≡ Some 9) → (b ≡ None) ⊎ ((b ≡ Some 9) ⊎ (b ≡ Some 10)) → (option_or a b ≡ None) ⊎ ((option_or a b ≡ Some 9) ⊎ (option_or a b ≡ Some 10))
first_ten None b p q = q
first_ten (Some n) b p q = ⊎_elim (λ e. inl e) (λ e. inr (inl e)) p

passes_both : {F G H : Type 0} (o : Stage G H) (i : Stage F G) → ((g : G) (k : ℕ) (x : List ℕ) → o.passes g k x ≡ true) → ((f : F) (k : ℕ) (x : List ℕ) → i.passes f k x ≡ true) → (f : F) (k : ℕ) (x : List ℕ) → (after o i).passes f k x ≡ true
passes_both o i po pi f k x = cond_both (nat_lt k (seam o i)) _ _ (λ b. b ≡ true) (λ e. po (i.coded f) k x) (λ e. pi f _ x)

pub after_arrays : (o i : Stage Form Form) → ArrayLaws o → ArrayLaws i → ArrayLaws (after o i)
after_arrays o i lo li = record {
  refuses_shape = λ f. first_nine (i.refusal f) (o.refusal (i.coded f)) (li.refuses_shape f) (lo.refuses_shape (i.coded f));
  count_kept = λ f r. let n = neither _ _ r in lo.count_kept (i.coded f) n.1 ∙ li.count_kept f n.0;
  type_kept = λ f r. let n = neither _ _ r in lo.type_kept (i.coded f) n.1 ∙ li.type_kept f n.0;
  fill_kept = λ f r. let n = neither _ _ r in lo.fill_kept (i.coded f) n.1 ∙ li.fill_kept f n.0;
  passes_all = passes_both o i lo.passes_all li.passes_all;
}

pub after_array_to_bytes : (o : Stage Form ℕ) (i : Stage Form Form) → ArrayToBytesLaws o → ArrayLaws i → ArrayToBytesLaws (after o i)
after_array_to_bytes o i lo li = record {
  refuses = λ f. first_ten (i.refusal f) (o.refusal (i.coded f)) (li.refuses_shape f) (lo.refuses (i.coded f));
  passes_all = passes_both o i lo.passes_all li.passes_all;
}
