-- The laws of the stage that changes nothing.
use Rattle.std.specs.Prelude.{◌≡◌, ℕ, true, nat_le, refl}
use Rattle.std.proofs.Common.{inl}
use Rattle.std.proofs.lemmas.Bool.{le-leb}
use Rattle.form.proofs.Sized.{form_facts}
use Rattle.stage.specs.Stage.{Laws}
use Rattle.stage.specs.Arrays.{array_bytes, ArrayLaws}
use Rattle.stage.proofs.Bytewise.{not_too_long}
use Rattle.base_codecs.specs.Empty.{empty_stage}

pub empty_laws : {F : Type 0} (b : F → ℕ) → Laws b b (empty_stage b)
empty_laws b = record {
  first = λ f r. refl;
  last = λ f r. refl;
  bound = λ f k r h. not_too_long (b f) r;
  encoded_size = λ f x r l. l;
  encoded_bytes = λ f x r l h. h;
  undone_size = λ f i j x r h k l. l;
  undone_bytes = λ f i j x r h k l y. y;
  undone_none = λ f i x r h l. refl;
  undone_on = λ f i j k x r h g m l. refl;
  whole = λ f x r l h. refl;
  passing = λ f k x r h l y. refl;
}

-- no array is too long for it
pub empty_arrays : ArrayLaws (empty_stage array_bytes)
empty_arrays = record {
  refuses_shape = λ f.
      let b : nat_le (array_bytes f) 4096 ≡ true = le-leb (array_bytes f) 4096 (form_facts f).fits in
      inl (rw b);
  count_kept = λ f r. refl;
  type_kept = λ f r. refl;
  fill_kept = λ f r. refl;
  passes_all = λ f k x. refl;
}
