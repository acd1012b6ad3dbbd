-- A draft that is sealed, and the chain of it that is fitted.
use Rattle.std.proofs.Common.{◌≡◌, ℕ, Some, None, Ok, Err, IfOk, Option, Result, ap}
use Rattle.std.specs.Option.{MatchOption}
use Rattle.std.specs.Result.{result_map_both}
use Rattle.form.specs.declared.array_form.Form.{Form}
use Rattle.form.specs.declared.fault.Fault.{Fault}
use Rattle.form.specs.Answers.{Answers}
use Rattle.chain_draft.specs.declared.ChainDraft.{ChainDraft}
use Rattle.chain_draft.specs.Seal.{ChainStages, sealed_stage, seal_refusal, Seals}
use Rattle.stage_names.specs.Drafting.{Fits}

unrefused : {X : Type 0} (o : Option ℕ) (P : X → Type 0) (A : Type 0) (B : ℕ → Type 0) (x : X) → Answers o P (Ok x) → (P x → A) → MatchOption o A B
unrefused None P A B x a k = k a
unrefused (Some n) P A B x a k = absurd a

mapped : {X Y : Type 0} (o : Option ℕ) (P : X → Type 0) (Q : Y → Type 0) (g : X → Y) (r : Result X Fault) → Answers o P r → ((x : X) → P x → Q (g x)) → Answers o Q (result_map_both g (λ e. e) r)
mapped None P Q g (Ok x) a k = k x a
mapped None P Q g (Err e) a k = absurd a
mapped (Some n) P Q g (Ok x) a k = absurd a
mapped (Some n) P Q g (Err e) a k = a

pub if_ok : {X : Type 0} (o : Option ℕ) (P Q : X → Type 0) (r : Result X Fault) → Answers o P r → ((x : X) → P x → Q x) → IfOk r Q
if_ok None P Q (Ok x) a k = k x a
if_ok None P Q (Err e) a k = absurd a
if_ok (Some n) P Q (Ok x) a k = absurd a
if_ok (Some n) P Q (Err e) a k = tt

-- a chain c was sealed, and then fitted
pub fits : {C F : Type 0} (stages : C → ChainStages) (chain : F → C) (P : F → Type 0) (draft : ChainDraft) (form : Form) (c : C) (r : Result F Fault)
    → Answers (seal_refusal draft) (λ k. Seals draft (stages k)) (Ok c)
    → Answers ((sealed_stage (stages c)).refusal form) P r → ((f : F) → P f → chain f ≡ c)
    → Fits draft form (result_map_both (λ f. stages (chain f)) (λ e. e) r)
fits stages chain P draft form c r a b k =
    unrefused (seal_refusal draft) (λ k. Seals draft (stages k)) _ _ c a
    (λ seals. (stages c, seals, mapped ((sealed_stage (stages c)).refusal form) P (λ q. q ≡ stages c) (λ f. stages (chain f)) r b (λ f h. ap stages (k f h))))
