-- Stages that are added to a draft one by one.
use Rattle.std.proofs.Common.{◌≡◌, ℕ, suc, ◌<◌, List, ◌∷◌, length, get_or, drop, map, Some, None, Ok, Err, Option, Result, sym, ap, subst}
use Rattle.std.specs.Option.{MatchOption}
use Rattle.std.specs.Result.{IsErrAnd}
use Rattle.std.proofs.Math.Seq.{drop-cons}
use Rattle.form.specs.declared.fault.Fault.{Fault}
use Rattle.form.specs.Answers.{Answers}
use Rattle.chain_draft.specs.declared.ChainDraft.{ChainDraft}
use Rattle.stage_names.specs.declared.name.StageName.{StageName}
use Rattle.stage_names.specs.Names.{said_stage}
use Rattle.stage_names.specs.Drafting.{add_refusal, AddedAll}

stopped_by : (o : Option ℕ) (A : Type 0) (P : Unit {0} → Type 0) (e : Fault) → Answers o P (Err e) → MatchOption o A (λ n. Answers {X = ChainDraft} (Some n) (λ _. ⊥) (Err e))
stopped_by None A P e a = absurd a
stopped_by (Some n) A P e a = a

pub is_err : {X E : Type 0} (r : Result X E) (e : E) → IsErrAnd r (λ d. d ≡ e) → r ≡ Err e
is_err (Ok x) e h = absurd h
is_err (Err d) e h = ap Err h

-- a stage that is refused is the last that is tried
pub stopped : (names : List StageName) (i : ℕ) (name d : StageName) (draft : ChainDraft) (P : Unit {0} → Type 0) (e : Fault) (r : Result ChainDraft Fault)
    → i < length names → name ≡ get_or names i d → Answers (add_refusal draft (said_stage name)) P (Err e) → IsErrAnd r (λ d. d ≡ e)
    → AddedAll draft (map said_stage (drop i names)) r
stopped names i name d draft P e r h n a k =
    subst (λ xs. AddedAll draft (map said_stage xs) r) (sym (drop-cons names i d h))
    (subst (λ m. AddedAll draft (said_stage m ∷ map said_stage (drop (suc i) names)) r) n
    (subst (AddedAll draft (said_stage name ∷ map said_stage (drop (suc i) names))) (sym (is_err r e k))
    (stopped_by (add_refusal draft (said_stage name)) _ P e a)))
