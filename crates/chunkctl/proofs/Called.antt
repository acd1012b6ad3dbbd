-- What a form that is taken or refused answers.
use Rattle.std.proofs.Common.{◌≡◌, ℕ, ◌*◌, List, IsErrAnd, Some, None, Ok, Err, Option, Result, sym, refl, ap, ◌∙◌, subst}
use Rattle.form.specs.declared.fault.Fault.{Fault}
use Rattle.form.specs.declared.array_form.Form.{Form}
use Rattle.form.specs.declared.data_type.DataType.{DataType}
use Rattle.form.specs.declared.data_type.DataType.TheVariants.{UInt8, Int8, UInt16, Int16, UInt32, Int32, UInt64, Int64, Float32, Float64}
use Rattle.form.specs.Answers.{Answers}
use Rattle.form.specs.Forms.{form_refusal, Made, shape_of, element_size}
use Rattle.form.specs.Shapes.{product}
use Rattle.form.specs.Types.{code_of, size_of, size_of_code}
use Rattle.chunkctl.specs.declared.trouble.Trouble.{Trouble}
use Rattle.chunkctl.specs.declared.trouble.Trouble.TheVariants.{Refused}
use Rattle.chunkctl.specs.declared.answer.Answer.{Answer}
use Rattle.chunkctl.specs.declared.answer.Answer.TheVariants.{Form as Formed}
use Rattle.chunkctl.specs.Carried.{Unrefused, IsRefused, FormSet, form_of}

pub refused_by : {X : Type 0} (o : Option ℕ) (P : X → Type 0) (Q : Answer → Type 0) (e : Fault) (r : Result Answer Trouble) → IsErrAnd r (λ t. t ≡ Refused e) → Answers o P (Err e) → Unrefused o Q r
refused_by None P Q e r h a = absurd a
refused_by (Some n) P Q e (Ok x) h a = absurd h
refused_by (Some n) P Q e (Err t) h a = subst (IsRefused n) (sym h) a

code_size : (t : DataType) → size_of_code (code_of t) ≡ size_of t
code_size UInt8 = refl
code_size Int8 = refl
code_size UInt16 = refl
code_size Int16 = refl
code_size UInt32 = refl
code_size Int32 = refl
code_size UInt64 = refl
code_size Int64 = refl
code_size Float32 = refl
code_size Float64 = refl

taken_by : (o : Option ℕ) (P : Form → Type 0) (Q : Answer → Type 0) (f : Form) (a : Answer) → Answers o P (Ok f) → (P f → Q a) → Unrefused o Q (Ok a)
taken_by None P Q f a h k = k h
taken_by (Some n) P Q f a h k = absurd h

pub form_set : (shape : List ℕ) (code : ℕ) (fill : List ℕ) (f : Form) (n m : ℕ) → Answers (form_refusal shape code fill) (Made shape code fill) (Ok f) → n ≡ product (shape_of f) → m ≡ product (shape_of f) * element_size f → FormSet shape code fill (Some f) (Ok (Formed n m))
form_set shape code fill f n m h en em =
    taken_by (form_refusal shape code fill) (Made shape code fill) _ f (Formed n m) h
    (λ made.
    let count : n ≡ product shape = en ∙ ap product made.shape_is in
    let size : element_size f ≡ size_of_code code = sym (code_size f.data_type) ∙ ap size_of_code made.code_is in
    let bytes : m ≡ product shape * size_of_code code = em ∙ (ap (λ s. product s * element_size f) made.shape_is ∙ ap (λ k. product shape * k) size) in
    (cc (count, bytes), (f, refl, made)))

pub form_there : (o : Option Form) (f : Form) → Ok f ≡ form_of None o → o ≡ Some f
form_there None f e = cc
form_there (Some g) f e = cc
