-- Encoding and decoding whole, from the laws of a stage.
use Rattle.std.proofs.Common.{◌≡◌, ℕ, zero, suc, ◌+◌, ◌-◌, ◌<◌, Bool, true, false, ◌&&◌, leb, eqb, List, length, Some, None, Ok, Option, Result, refl, ap, ◌∙◌, arith}
use Rattle.std.proofs.lemmas.Bool.{eq-eqb, le-leb, and_from, cond-true}
use Rattle.form.specs.declared.array_form.Form.{Form}
use Rattle.form.specs.Refusals.{Refusal, only_if}
use Rattle.stage.specs.Stage.{Stage, Laws, first_false, failing, tested, answered}
use Rattle.stage.specs.Arrays.{array_bytes}
use Rattle.stage.specs.Calls.{roomy, forward, undo_answer}
use Rattle.stage.proofs.Undoing.{placed}
use Rattle.pair.specs.Composition.{after_laws}
use Rattle.pair.specs.declared.Pair.{Pair}
use Rattle.codec_chain.specs.Chain.{chain_stage}
use Rattle.codec_chain.specs.Whole.{decode_whole, Returns}

-- a chain keeps the laws that its stages keep
pub chain_laws : {A B S : Type 0} (a : A → Stage Form Form) (b : B → Stage Form ℕ) (s : S → Stage ℕ ℕ)
    → ((c : A) → Laws array_bytes array_bytes (a c)) → ((c : B) → Laws array_bytes (λ n. n) (b c)) → ((c : S) → Laws (λ n. n) (λ n. n) (s c))
    → (p : Pair S (Pair B A)) → Laws array_bytes (λ n. n) (chain_stage a b s p)
chain_laws a b s la lb ls p =
    after_laws array_bytes (λ n. n) (λ n. n) (s p.outer) _ (ls p.outer)
    (after_laws array_bytes array_bytes (λ n. n) (b p.inner.outer) (a p.inner.inner) (lb p.inner.outer) (la p.inner.inner))

none_fails : (p : ℕ → Bool) (i n : ℕ) → ((k : ℕ) → k < i + n → p k ≡ true) → first_false p i n ≡ None
none_fails p i zero h = refl
none_fails p i (suc n) h =
    cond-true (p i) (first_false p (suc i) n) (Some i) (h i (omega arith)) ∙ none_fails p (suc i) n (λ k l. h k (omega arith))

untested : (checks : Bool) (o : Option ℕ) (n : ℕ) → o ≡ None → answered (tested checks o) n ≡ Ok n
untested true o n e = ap (λ u. answered u n) e
untested false o n e = refl

module _ {F G : Type 0} (bF : F → ℕ) (bG : G → ℕ) (t : Stage F G) (l : Laws bF bG t) (f : F) (r : t.refusal f ≡ None) where
  -- undoing from the first place to the last is decoding whole
  pub whole_undo : (places : ℕ) (checks : Bool) (input : List ℕ) (out work scratch : ℕ) → places ≡ length t.singles → undo_answer bF t f 0 places checks input out work scratch ≡ decode_whole bF t f checks input out work scratch
  whole_undo places checks input out work scratch e =
      let there : forward t 0 (length t.singles) ≡ true = placed t 0 (length t.singles) (omega arith) (omega arith) in
      let all : t.size f (length t.singles) ≡ bF f = l.last f r in
      ap (λ n. undo_answer bF t f 0 n checks input out work scratch) e ∙ rw (r, there, all)

  pub returns : Returns bF t f
  returns = record {
    counted = λ x e. l.encoded_size f x r e;
    answers = λ x e y checks out work scratch ho hw hs.
        let m : ℕ = length t.singles in
        let rest : Result ℕ Refusal = answered (tested checks (failing t f 0 m (t.encoded f x))) (bF f) in
        let w : failing t f 0 m (t.encoded f x) ≡ None = none_fails _ 0 (m - 0) (λ k h. l.passing f k x r (omega arith) e y) in
        let size : eqb (length (t.encoded f x)) (t.size f 0) ≡ true = eq-eqb _ _ (l.encoded_size f x r e) in
        let room : (leb (bF f) out && roomy work scratch) ≡ true = and_from _ _ (le-leb _ _ ho) (and_from _ _ (le-leb _ _ hw) (le-leb _ _ hs)) in
        ap (λ v. only_if v 13 (only_if (leb (bF f) out && roomy work scratch) 14 rest)) size
        ∙ ap (λ v. only_if v 14 rest) room
        ∙ untested checks _ (bF f) w;
    same = λ x e y. l.whole f x r e y;
  }
