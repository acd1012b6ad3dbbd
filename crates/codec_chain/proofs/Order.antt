-- The three stages of a chain, one after the other.
use Rattle.std.proofs.Common.{◌≡◌, ℕ, ◌-◌, List, ◌++◌, length, Some, None, Option, refl, ap, ◌∙◌, arith}
use Rattle.std.specs.Option.{option_or}
use Rattle.form.specs.declared.array_form.Form.{Form}
use Rattle.stage.specs.Stage.{Stage, Laws}
use Rattle.stage.specs.Arrays.{array_bytes}
use Rattle.pair.specs.Compose.{after}
use Rattle.pair.specs.Composition.{after_laws, all_is, ri, both_across, outer_length}
use Rattle.codec_chain.specs.Whole.{decoded}
use Rattle.codec_chain.specs.Chain.{InOrder}

-- a pair is decoded by its outer half first
module _ {F G H : Type 0} (bF : F → ℕ) (bG : G → ℕ) (bH : H → ℕ) (o : Stage G H) (i : Stage F G) (lo : Laws bG bH o) (li : Laws bF bG i) (f : F) (r : (after o i).refusal f ≡ None) (x : List ℕ) (e : length x ≡ (after o i).size f 0) where
  inner_size : length (decoded o (i.coded f) x) ≡ i.size f 0
  inner_size = outer_length bF bG bH o i lo li f r 0 x (omega arith) e

  pair_decoded : decoded (after o i) f x ≡ decoded i f (decoded o (i.coded f) x)
  pair_decoded =
      let n = all_is bF bG bH o i lo li in
      let d : length (o.singles ++ i.singles) - length o.singles ≡ length i.singles = omega arith in
      both_across bF bG bH o i lo li f r 0 (length (o.singles ++ i.singles)) x (omega arith) (omega arith) (omega arith) e
      ∙ ap (λ k. i.undone f 0 k (decoded o (i.coded f) x)) d

pub or_twice : (u v w : Option ℕ) → option_or (option_or u v) w ≡ option_or u (option_or v w)
or_twice None v w = refl
or_twice (Some n) v w = refl

pub in_order : (a : Stage Form Form) (b : Stage Form ℕ) (s : Stage ℕ ℕ) → Laws array_bytes array_bytes a → Laws array_bytes (λ n. n) b → Laws (λ n. n) (λ n. n) s → InOrder a b s (after s (after b a))
in_order a b s la lb ls =
    let lab = after_laws array_bytes array_bytes (λ n. n) b a lb la in record {
      singles = refl;
      refuses = λ f. or_twice (a.refusal f) (b.refusal (a.coded f)) (s.refusal (b.coded (a.coded f)));
      encodes = λ f x. refl;
      decodes = λ f x r e.
          pair_decoded array_bytes (λ n. n) (λ n. n) s (after b a) ls lab f r x e
          ∙ pair_decoded array_bytes array_bytes (λ n. n) b a lb la f (ri array_bytes (λ n. n) (λ n. n) s (after b a) ls lab f r)
          (decoded s (b.coded (a.coded f)) x)
          (inner_size array_bytes (λ n. n) (λ n. n) s (after b a) ls lab f r x e);
    }
