-- The chosen of two codecs keeps the laws that both keep.
use Rattle.std.specs.Prelude.{ℕ}
use Rattle.form.specs.declared.array_form.Form.{Form}
use Rattle.stage.specs.Stage.{Stage, Laws}
use Rattle.stage.specs.Arrays.{ArrayLaws}
use Rattle.base_codecs.specs.declared.chosen.Chosen.{Chosen}
use Rattle.base_codecs.specs.declared.chosen.Chosen.TheVariants.{First, Second}
use Rattle.base_codecs.specs.Chosen.{chosen}

pub chosen_laws : {A B F G : Type 0} (bF : F → ℕ) (bG : G → ℕ) (a : A → Stage F G) (b : B → Stage F G)
    → ((c : A) → Laws bF bG (a c)) → ((c : B) → Laws bF bG (b c)) → (c : Chosen A B) → Laws bF bG (chosen a b c)
chosen_laws bF bG a b la lb (First c) = la c
chosen_laws bF bG a b la lb (Second c) = lb c

pub chosen_arrays : {A B : Type 0} (a : A → Stage Form Form) (b : B → Stage Form Form)
    → ((c : A) → ArrayLaws (a c)) → ((c : B) → ArrayLaws (b c)) → (c : Chosen A B) → ArrayLaws (chosen a b c)
chosen_arrays a b la lb (First c) = la c
chosen_arrays a b la lb (Second c) = lb c
